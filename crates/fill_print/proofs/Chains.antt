-- How readings are put together.
use Rattle.std.proofs.Common.{◌≡◌, ℕ, ◌+◌, ◌<◌, List, [], ◌∷◌, ◌++◌, length, take, drop, get_or, refl, sym, ap, subst, ◌∙◌, arith, add-one, Option, None, Some, drop-cons, take-append-drop}
use Rattle.std.proofs.lemmas.Grind.{common_steps}
use Rattle.std.proofs.lemmas.List.{append_assoc, append-nil}
use Rattle.fill_print.specs.Reading.{SameHead, IsNotNext, Spells, Takes, Halts, Then, Gives, Plain, ManyFrom, Fails, Reads}
use Rattle.std.specs.Prelude.{Result, Ok, Err, IsErrAnd}
use Rattle.std.proofs.lemmas.Result.{err_from_is_err_and}
use Rattle.fill_print.specs.declared.read.error.ReadError.{ReadError}
use Rattle.fill_print.specs.declared.read.error.ReadError.TheVariants.{NoMemory, Bad}

-- each text that stands for something ends where it ends, whatever follows
pub record OneForm {A : Type 0} (R : A → List ℕ → List ℕ → Type 0) : Type 0 where
  pub law : (a b : A) (s k l : List ℕ) → R a s k → R b s l → (a ≡ b) × (k ≡ l)

-- something is spelled
pub record IsSpelled {A : Type 0} (R : A → List ℕ → List ℕ → Type 0) : Type 0 where
  pub some : A
  pub text : List ℕ
  pub spelled : Spells R some text

pub same_head : (f x y : List ℕ) → SameHead x y → SameHead (f ++ x) (f ++ y)
same_head [] x y h = h
same_head (b ∷ f) x y h = refl

pub head_itself : (x : List ℕ) → SameHead x x
head_itself [] = tt
head_itself (b ∷ x) = refl

regroup : (f : List ℕ) (c : ℕ) (m s k : List ℕ) → (f ++ c ∷ m) ++ (s ++ k) ≡ (f ++ c ∷ (m ++ s)) ++ k
regroup f c m s k = simp append_assoc

regroup_all : (l f : List ℕ) (c : ℕ) (m s k : List ℕ) → l ++ ((f ++ c ∷ m) ++ (s ++ k)) ≡ ((l ++ f) ++ c ∷ (m ++ s)) ++ k
regroup_all l f c m s k = simp append_assoc

regroup_more : (t f : List ℕ) (c : ℕ) (m k : List ℕ) → t ++ ((f ++ c ∷ m) ++ k) ≡ ((t ++ f) ++ c ∷ m) ++ k
regroup_more t f c m k = simp append_assoc

module _ {B : Type 0} where
  pub gives_takes : (x : B) (bytes : List ℕ) → Takes (Gives x) bytes x bytes
  gives_takes x bytes = record { front = []; is = refl; spelled = λ k. (refl, refl) }

  pub gives_spelled : (x : B) → IsSpelled (Gives x)
  gives_spelled x = record { some = x; text = []; spelled = λ k. (refl, refl) }

  pub gives_one : (x : B) → OneForm (Gives x)
  gives_one x = record { law = λ a b s k l p q. (p.0 ∙ sym q.0, sym p.1 ∙ q.1) }

cancel : (w x y : List ℕ) → w ++ x ≡ w ++ y → x ≡ y
cancel [] x y e = e
cancel (c ∷ w) x y e = let tails : w ++ x ≡ w ++ y = cc in cancel w x y tails

pub plain_one : (w : List ℕ) → OneForm (Plain w)
plain_one w = record { law = λ a b s k l p q. (refl, cancel w k l (sym p ∙ q)) }

pub plain_spelled : (w : List ℕ) → IsSpelled (Plain w)
plain_spelled w = record { some = tt; text = w; spelled = λ k. refl }

-- one and then another
pub link : {A B : Type 0} {R : A → List ℕ → List ℕ → Type 0} {K : A → B → List ℕ → List ℕ → Type 0} {b : B} {s k : List ℕ} (a : A) (m : List ℕ) → R a s m → K a b m k → Then R K b s k
link a m p q = record { item = a; middle = m; here = p; later = q }

module _ {A B : Type 0} (R : A → List ℕ → List ℕ → Type 0) (K : A → B → List ℕ → List ℕ → Type 0) where
  moved : (a a' : A) (b : B) (m m' k : List ℕ) → a ≡ a' → m ≡ m' → K a b m k → K a' b m' k
  moved a a' b m m' k e f h = subst (λ x. K x b m' k) e (subst (λ x. K a b x k) f h)

  pub then_spelled : IsSpelled R → ((a : A) → IsSpelled (K a)) → IsSpelled (Then R K)
  then_spelled r rest =
      let s = rest r.some in
      record {
        some = s.some;
        text = r.text ++ s.text;
        spelled = λ k. link r.some (s.text ++ k) (subst (λ x. R r.some x (s.text ++ k)) (sym (append_assoc r.text s.text k)) (r.spelled (s.text ++ k))) (s.spelled k);
      }

  pub then_takes : (a : A) (b : B) (bytes m rest : List ℕ) → Takes R bytes a m → Takes (K a) m b rest → Takes (Then R K) bytes b rest
  then_takes a b bytes m rest t u = record {
    front = t.front ++ u.front;
    is = t.is ∙ ap (λ x. t.front ++ x) u.is ∙ sym (append_assoc t.front u.front rest);
    spelled = λ k. link a (u.front ++ k) (subst (λ x. R a x (u.front ++ k)) (sym (append_assoc t.front u.front k)) (t.spelled (u.front ++ k))) (u.spelled k);
  }

  -- a halt in the first
  pub then_stops : (bytes : List ℕ) (left : ℕ) → Halts R bytes left → ((a : A) → IsSpelled (K a)) → Halts (Then R K) bytes left
  then_stops bytes left h rest =
      let s = rest h.some in
      record {
        front = h.front;
        rest = h.rest;
        is = h.is;
        size = h.size;
        some = s.some;
        next = h.next;
        more = h.more ++ s.text;
        viable = λ k. link h.some (s.text ++ k) (subst (λ x. R h.some x (s.text ++ k)) (regroup h.front h.next h.more s.text k) (h.viable (s.text ++ k))) (s.spelled k);
        wrong = λ b r k same found. h.wrong found.item r found.middle same found.here;
      }

  -- a halt in the second
  pub then_halts : OneForm R → (a : A) (bytes m : List ℕ) (left : ℕ) → Takes R bytes a m → Halts (K a) m left → Halts (Then R K) bytes left
  then_halts one a bytes m left t h = record {
    front = t.front ++ h.front;
    rest = h.rest;
    is = t.is ∙ ap (λ x. t.front ++ x) h.is ∙ sym (append_assoc t.front h.front h.rest);
    size = h.size;
    some = h.some;
    next = h.next;
    more = h.more;
    viable = λ k.
        let rest = (h.front ++ h.next ∷ h.more) ++ k in
        link a rest (subst (λ x. R a x rest) (regroup_more t.front h.front h.next h.more k) (t.spelled rest)) (h.viable k);
    wrong = λ b r k same found.
        let here : R found.item (t.front ++ (h.front ++ r)) found.middle = subst (λ x. R found.item x found.middle) (append_assoc t.front h.front r) found.here in
        let e = one.law found.item a (t.front ++ (h.front ++ r)) found.middle (h.front ++ r) here (t.spelled (h.front ++ r)) in
        h.wrong b r k same (moved found.item a b found.middle (h.front ++ r) k e.0 e.1 found.later);
  }

  pub then_one : OneForm R → ((a : A) → OneForm (K a)) → OneForm (Then R K)
  then_one first second = record {
    law = λ b c s k l p q.
        let f = first.law p.item q.item s p.middle q.middle p.here q.here in
        (second q.item).law b c q.middle k l (moved p.item q.item b p.middle q.middle k f.0 f.1 p.later) q.later;
  }

-- what is the same for bytes with this first byte
pub record IsAt {B : Type 0} (R K : B → List ℕ → List ℕ → Type 0) (first : ℕ) : Type 0 where
  pub forth : (b : B) (s k : List ℕ) → K b s k → R b s k
  pub back : (b : B) (s k : List ℕ) → R b (first ∷ s) k → K b (first ∷ s) k

begins_so : (c : ℕ) (bytes after f x r : List ℕ) → bytes ≡ c ∷ after → bytes ≡ f ++ x → SameHead x r → (tail : List ℕ) × (f ++ r ≡ c ∷ tail)
begins_so c bytes after [] [] r e g h = let bad : ◌≡◌ {A = List ℕ} [] (c ∷ after) = sym g ∙ e in absurd (let no_such : ⊥ = cc in no_such)
begins_so c bytes after [] (d ∷ x) [] e g h = absurd h
begins_so c bytes after [] (d ∷ x) (y ∷ r) e g h = let same : y ≡ c = (let both : d ∷ x ≡ c ∷ after = sym g ∙ e in cc) in (r, ap (λ z. z ∷ r) same)
begins_so c bytes after (d ∷ f) x r e g h = let same : d ≡ c = (let both : d ∷ (f ++ x) ≡ c ∷ after = sym g ∙ e in cc) in (f ++ r, ap (λ z. z ∷ (f ++ r)) same)

module _ {B : Type 0} (R K : B → List ℕ → List ℕ → Type 0) where
  pub at_takes : (first : ℕ) (b : B) (bytes rest : List ℕ) → IsAt R K first → Takes K bytes b rest → Takes R bytes b rest
  at_takes first b bytes rest same t = record { front = t.front; is = t.is; spelled = λ k. same.forth b (t.front ++ k) k (t.spelled k) }

  pub at_halts : (first : ℕ) (bytes after : List ℕ) (left : ℕ) → IsAt R K first → bytes ≡ first ∷ after → Halts K bytes left → Halts R bytes left
  at_halts first bytes after left same e h = record {
    front = h.front;
    rest = h.rest;
    is = h.is;
    size = h.size;
    some = h.some;
    next = h.next;
    more = h.more;
    viable = λ k. same.forth h.some _ k (h.viable k);
    wrong = λ b r k head found.
        let t = begins_so first bytes after h.front h.rest r e h.is head in
        h.wrong b r k head (subst (λ x. K b x k) (sym t.1) (same.back b t.0 k (subst (λ x. R b x k) t.1 found)));
  }

-- something is spelled by a text that isn't empty
abbrev pub HasText : {A : Type 0} → (A → List ℕ → List ℕ → Type 0) → Type 0
HasText {A} R = (a : A) × (c : ℕ) × (more : List ℕ) × Spells R a (c ∷ more)

module _ {A : Type 0} (R : A → List ℕ → List ℕ → Type 0) where
  -- nothing begins with the byte that stands first
  pub halts_first : HasText R → (c : ℕ) (bytes after : List ℕ) → bytes ≡ c ∷ after → ((a : A) (s k : List ℕ) → R a (c ∷ s) k → ⊥) → Halts R bytes (length bytes)
  halts_first t c bytes after e never = record {
    front = [];
    rest = bytes;
    is = refl;
    size = refl;
    some = t.0;
    next = t.1;
    more = t.2;
    viable = t.3;
    wrong = λ a r k same found. let x = begins_so c bytes after [] bytes r e refl same in never a x.0 k (subst (λ y. R a y k) x.1 found);
  }

  -- there are no more bytes
  pub halts_empty : HasText R → (bytes : List ℕ) → bytes ≡ [] → ((a : A) (k : List ℕ) → R a [] k → ⊥) → Halts R bytes 0
  halts_empty t bytes e never = record {
    front = [];
    rest = bytes;
    is = refl;
    size = ap length e;
    some = t.0;
    next = t.1;
    more = t.2;
    viable = t.3;
    wrong = λ a r k same found. go a r k (subst (λ x. SameHead x r) e same) found;
  }
    where
      go : (a : A) (r k : List ℕ) → SameHead [] r → R a r k → ⊥
      go a [] k same found = never a k found
      go a (c ∷ r) k same found = absurd same

-- a list was read so far, and Q is the rest of it
pub record Leads {A : Type 0} (R Q : List A → List ℕ → List ℕ → Type 0) (done : List A) (bytes rest : List ℕ) : Type 0 where
  pub front : List ℕ
  pub is : bytes ≡ front ++ rest
  pub forth : (t : List A) (s k : List ℕ) → Q t s k → R (done ++ t) (front ++ s) k
  pub back : (all : List A) (s k : List ℕ) → R all (front ++ s) k → (t : List A) × (all ≡ done ++ t) × Q t s k

pub leads_start : {A : Type 0} (R : List A → List ℕ → List ℕ → Type 0) (bytes : List ℕ) → Leads R R [] bytes bytes
leads_start R bytes = record { front = []; is = refl; forth = λ t s k h. h; back = λ all s k h. (all, refl, h) }

module _ {S A : Type 0} (Step : S → Option A → List ℕ → List ℕ → Type 0) (next : S → A → S) where
  abbrev pub Completes : S → Type 0
  Completes state = (a : A) (t : List ℕ) → Spells (Step state) (Some a) t → IsSpelled (ManyFrom Step next (next state a))

  moved_item : (state : S) (a b : A) (t : List A) (m n k : List ℕ) → a ≡ b → m ≡ n → ManyFrom Step next (next state a) t m k → ManyFrom Step next (next state b) t n k
  moved_item state a b t m n k e f h = subst (λ x. ManyFrom Step next (next state x) t n k) e (subst (λ x. ManyFrom Step next (next state a) t x k) f h)

  -- the list goes on with an item that was read
  goes_with : (state : S) → OneForm (Step state) → (a : A) (f : List ℕ) → Spells (Step state) (Some a) f → (t : List A) (s k : List ℕ) → ManyFrom Step next state t (f ++ s) k
      → (u : List A) × (t ≡ a ∷ u) × ManyFrom Step next (next state a) u s k
  goes_with state one a f spelled [] s k h =
      let e = one.law None (Some a) (f ++ s) k s h (spelled s) in
      let bad : ◌≡◌ {A = Option A} None (Some a) = e.0 in
      absurd (let no_such : ⊥ = cc in no_such)
  goes_with state one a f spelled (b ∷ t) s k h =
      let e = one.law (Some b) (Some a) (f ++ s) h.0 s h.1 (spelled s) in
      let both : ◌≡◌ {A = Option A} (Some b) (Some a) = e.0 in
      let same : b ≡ a = cc in
      (t, ap (λ x. x ∷ t) same, moved_item state b a t h.0 s k same e.1 h.2)

  module _ (R : List A → List ℕ → List ℕ → Type 0) where
    pub leads_more : (state : S) → OneForm (Step state) → (done : List A) (a : A) (bytes rest after : List ℕ) → Leads R (ManyFrom Step next state) done bytes rest → Takes (Step state) rest (Some a) after
        → Leads R (ManyFrom Step next (next state a)) (done ++ a ∷ []) bytes after
    leads_more state one done a bytes rest after l t = record {
      front = l.front ++ t.front;
      is = l.is ∙ ap (λ x. l.front ++ x) t.is ∙ sym (append_assoc l.front t.front after);
      forth = λ u s k h.
          let whole : R (done ++ a ∷ u) (l.front ++ (t.front ++ s)) k = l.forth (a ∷ u) (t.front ++ s) k (s, t.spelled s, h) in
          subst (λ x. R x ((l.front ++ t.front) ++ s) k) (sym (append_assoc done (a ∷ []) u)) (subst (λ x. R (done ++ a ∷ u) x k) (sym (append_assoc l.front t.front s)) whole);
      back = λ all s k h.
          let g = l.back all (t.front ++ s) k (subst (λ x. R all x k) (append_assoc l.front t.front s) h) in
          let u = goes_with state one a t.front t.spelled g.0 s k g.2 in
          (u.0, g.1 ∙ ap (λ x. done ++ x) u.1 ∙ sym (append_assoc done (a ∷ []) u.0), u.2);
    }

    pub leads_end : (state : S) (done : List A) (bytes rest after : List ℕ) → Leads R (ManyFrom Step next state) done bytes rest → Takes (Step state) rest None after → Takes R bytes done after
    leads_end state done bytes rest after l t = record {
      front = l.front ++ t.front;
      is = l.is ∙ ap (λ x. l.front ++ x) t.is ∙ sym (append_assoc l.front t.front after);
      spelled = λ k. subst (λ x. R x ((l.front ++ t.front) ++ k) k) (append-nil done) (subst (λ x. R (done ++ []) x k) (sym (append_assoc l.front t.front k)) (l.forth [] (t.front ++ k) k (t.spelled k)));
    }

    -- the list of what a halt in the next item may go on to
    goes : (state : S) → Completes state → (o : Option A) (t : List ℕ) → Spells (Step state) o t → (u : List A) × (more : List ℕ) × ((k : List ℕ) → ManyFrom Step next state u (t ++ (more ++ k)) k)
    goes state complete None t h = ([], [], h)
    goes state complete (Some a) t h =
        let c = complete a t h in
        (a ∷ c.some, c.text, λ k. (c.text ++ k, h (c.text ++ k), c.spelled k))

    never : (state : S) (f r : List ℕ) → ((o : Option A) (k : List ℕ) → Step state o (f ++ r) k → ⊥) → (t : List A) (k : List ℕ) → ManyFrom Step next state t (f ++ r) k → ⊥
    never state f r no_step [] k h = no_step None k h
    never state f r no_step (b ∷ t) k h = no_step (Some b) h.0 h.1

    pub leads_halts : (state : S) → Completes state → (done : List A) (bytes rest : List ℕ) (left : ℕ) → Leads R (ManyFrom Step next state) done bytes rest → Halts (Step state) rest left → Halts R bytes left
    leads_halts state complete done bytes rest left l h =
        let g = goes state complete h.some (h.front ++ h.next ∷ h.more) h.viable in
        record {
          front = l.front ++ h.front;
          rest = h.rest;
          is = l.is ∙ ap (λ x. l.front ++ x) h.is ∙ sym (append_assoc l.front h.front h.rest);
          size = h.size;
          some = done ++ g.0;
          next = h.next;
          more = h.more ++ g.1;
          viable = λ k. subst (λ x. R (done ++ g.0) x k) (regroup_all l.front h.front h.next h.more g.1 k) (l.forth g.0 ((h.front ++ h.next ∷ h.more) ++ (g.1 ++ k)) k (g.2 k));
          wrong = λ all r k same found.
              let b = l.back all (h.front ++ r) k (subst (λ x. R all x k) (append_assoc l.front h.front r) found) in
              never state h.front r (λ o m step. h.wrong o r m same step) b.0 k b.2;
        }

  pub many_one : ((state : S) → OneForm (Step state)) → (state : S) → OneForm (ManyFrom Step next state)
  many_one one state = record { law = λ x y s k l p q. go state x y s k l p q }
    where
      go : (state : S) (x y : List A) (s k l : List ℕ) → ManyFrom Step next state x s k → ManyFrom Step next state y s l → (x ≡ y) × (k ≡ l)
      go state [] [] s k l p q = (refl, ((one state).law None None s k l p q).1)
      go state [] (b ∷ y) s k l p q =
          let e : ◌≡◌ {A = Option A} None (Some b) = ((one state).law None (Some b) s k q.0 p q.1).0 in
          absurd (let no_such : ⊥ = cc in no_such)
      go state (a ∷ x) [] s k l p q =
          let e : ◌≡◌ {A = Option A} (Some a) None = ((one state).law (Some a) None s p.0 l p.1 q).0 in
          absurd (let no_such : ⊥ = cc in no_such)
      go state (a ∷ x) (b ∷ y) s k l p q =
          let e = (one state).law (Some a) (Some b) s p.0 q.0 p.1 q.1 in
          let both : ◌≡◌ {A = Option A} (Some a) (Some b) = e.0 in
          let same : a ≡ b = cc in
          let f = go (next state b) x y q.0 k l (moved_item state a b x p.0 q.0 k same e.1 p.2) q.2 in
          (ap (λ z. z ∷ x) same ∙ ap (λ z. b ∷ z) f.0, f.1)

not_head : (c : ℕ) (rest r x : List ℕ) → IsNotNext c rest → SameHead rest r → r ≡ c ∷ x → ⊥
not_head c [] [] x ne same e = cc
not_head c [] (d ∷ r) x ne same e = absurd same
not_head c (b ∷ rest) [] x ne same e = absurd same
not_head c (b ∷ rest) (d ∷ r) x ne same e = ne (let h : b ≡ c = cc in h)

-- a halt within a word, of which the front was there
pub plain_halts : (f : List ℕ) (c : ℕ) (more : List ℕ) (w : List ℕ) (bytes rest : List ℕ) → w ≡ f ++ c ∷ more → bytes ≡ f ++ rest → IsNotNext c rest → Halts (Plain w) bytes (length rest)
plain_halts f c more w bytes rest made e ne = record {
  front = f;
  rest = rest;
  is = e;
  size = refl;
  some = tt;
  next = c;
  more = more;
  viable = λ k. ap (λ x. x ++ k) (sym made);
  wrong = λ a r k same found.
      let longer : f ++ r ≡ f ++ ((c ∷ more) ++ k) = found ∙ ap (λ x. x ++ k) made ∙ append_assoc f (c ∷ more) k in
      not_head c rest r (more ++ k) ne same (cancel f r ((c ∷ more) ++ k) longer);
}

pub plain_takes : (w bytes rest : List ℕ) → bytes ≡ w ++ rest → Takes (Plain w) bytes tt rest
plain_takes w bytes rest e = record { front = w; is = e; spelled = λ k. refl }

-- a word is its front up to an index, the byte there, and the rest
pub cut_at : (w : List ℕ) (i : ℕ) → i < length w → w ≡ take i w ++ get_or w i 0 ∷ drop (i + 1) w
cut_at w i h = sym (take-append-drop i w) ∙ ap (λ x. take i w ++ x) (rw (add-one) (drop-cons w i 0 h))

pub goes_on : (w bytes rest after : List ℕ) (i b : ℕ) → i < length w → bytes ≡ take i w ++ rest → rest ≡ b ∷ after → b ≡ get_or w i 0 → bytes ≡ take (i + 1) w ++ after
goes_on w bytes rest after i b h e f same =
    let step : take (i + 1) w ≡ take i w ++ get_or w i 0 ∷ [] = grind (arith, common_steps) in
    e ∙ ap (λ x. take i w ++ x) f ∙ ap (λ x. take i w ++ x ∷ after) same ∙ sym (append_assoc (take i w) (get_or w i 0 ∷ []) after) ∙ ap (λ x. x ++ after) (sym step)

-- a halt at an index of a word
pub plain_halts_at : (w bytes rest : List ℕ) (i : ℕ) → i < length w → bytes ≡ take i w ++ rest → IsNotNext (get_or w i 0) rest → Halts (Plain w) bytes (length rest)
plain_halts_at w bytes rest i h e ne = plain_halts (take i w) (get_or w i 0) (drop (i + 1) w) w bytes rest (cut_at w i h) e ne

pub plain_ends : (w bytes rest : List ℕ) (i : ℕ) → i < length w → bytes ≡ take i w ++ rest → rest ≡ [] → Halts (Plain w) bytes 0
plain_ends w bytes rest i h e nil = plain_halts_at w bytes [] i h (subst (λ x. bytes ≡ take i w ++ x) nil e) tt

pub plain_differs : (w bytes rest after : List ℕ) (i b : ℕ) → i < length w → bytes ≡ take i w ++ rest → rest ≡ b ∷ after → (b ≡ get_or w i 0 → ⊥) → Halts (Plain w) bytes (length rest)
plain_differs w bytes rest after i b h e f ne = plain_halts_at w bytes rest i h e (subst (λ x. IsNotNext (get_or w i 0) x) (sym f) ne)

-- a failure in a part is one in the whole
pub fails_in : {A B : Type 0} (R : A → List ℕ → List ℕ → Type 0) (L : B → List ℕ → List ℕ → Type 0) (part bytes : List ℕ) (e : ReadError) → ((left : ℕ) → Halts R part left → Halts L bytes left) → Fails R part e → Fails L bytes e
fails_in R L part bytes NoMemory f h = tt
fails_in R L part bytes (Bad left) f h = f left h

-- the same with arguments found
module _ {A B : Type 0} {R : A → List ℕ → List ℕ → Type 0} {K : A → B → List ℕ → List ℕ → Type 0} where
  pub both : {a : A} {b : B} {bytes m rest : List ℕ} → Takes R bytes a m → Takes (K a) m b rest → Takes (Then R K) bytes b rest
  both {a} {b} {bytes} {m} {rest} t u = then_takes R K a b bytes m rest t u

  pub in_first : {bytes : List ℕ} {left : ℕ} → Halts R bytes left → ((a : A) → IsSpelled (K a)) → Halts (Then R K) bytes left
  in_first {bytes} {left} h s = then_stops R K bytes left h s

  pub in_rest : {a : A} {bytes m : List ℕ} {left : ℕ} → OneForm R → Takes R bytes a m → Halts (K a) m left → Halts (Then R K) bytes left
  in_rest {a} {bytes} {m} {left} one t h = then_halts R K one a bytes m left t h

  pub both_spelled : IsSpelled R → ((a : A) → IsSpelled (K a)) → IsSpelled (Then R K)
  both_spelled r k = then_spelled R K r k

  pub both_one : OneForm R → ((a : A) → OneForm (K a)) → OneForm (Then R K)
  both_one r k = then_one R K r k

pub done : {B : Type 0} {x : B} {bytes : List ℕ} → Takes (Gives x) bytes x bytes
done {B} {x} {bytes} = gives_takes x bytes

module _ {B : Type 0} {R K : B → List ℕ → List ℕ → Type 0} where
  pub via : {first : ℕ} {b : B} {bytes rest : List ℕ} → IsAt R K first → Takes K bytes b rest → Takes R bytes b rest
  via {first} {b} {bytes} {rest} same t = at_takes R K first b bytes rest same t

  pub via_halts : {first : ℕ} {bytes after : List ℕ} {left : ℕ} → IsAt R K first → bytes ≡ first ∷ after → Halts K bytes left → Halts R bytes left
  via_halts {first} {bytes} {after} {left} same e h = at_halts R K first bytes after left same e h

  pub reads_via : {X : Type 0} (view : X → B) (rest : X → List ℕ) (first : ℕ) (bytes after : List ℕ) (r : Result X ReadError) → IsAt R K first → bytes ≡ first ∷ after → Reads view rest K bytes r → Reads view rest R bytes r
  reads_via view rest first bytes after (Ok x) same e h = via same h
  reads_via view rest first bytes after (Err NoMemory) same e h = tt
  reads_via view rest first bytes after (Err (Bad left)) same e h = via_halts same e h

-- one form, by the first byte
pub at_one : {B : Type 0} (R K : B → List ℕ → List ℕ → Type 0) (first : ℕ) → IsAt R K first → OneForm K → (a b : B) (s x k l : List ℕ) → s ≡ first ∷ x → R a s k → R b s l → (a ≡ b) × (k ≡ l)
at_one R K first same one a b s x k l e p q =
    one.law a b (first ∷ x) k l (same.back a x k (subst (λ y. R a y k) e p)) (same.back b x l (subst (λ y. R b y l) e q))

-- what is the same everywhere
pub record IsSame {B : Type 0} (R K : B → List ℕ → List ℕ → Type 0) : Type 0 where
  pub forth : (b : B) (s k : List ℕ) → K b s k → R b s k
  pub back : (b : B) (s k : List ℕ) → R b s k → K b s k

module _ {B : Type 0} {R K : B → List ℕ → List ℕ → Type 0} where
  pub same_takes : {b : B} {bytes rest : List ℕ} → IsSame R K → Takes K bytes b rest → Takes R bytes b rest
  same_takes {b} {bytes} {rest} same t = record { front = t.front; is = t.is; spelled = λ k. same.forth b (t.front ++ k) k (t.spelled k) }

  pub same_halts : {bytes : List ℕ} {left : ℕ} → IsSame R K → Halts K bytes left → Halts R bytes left
  same_halts {bytes} {left} same h = record {
    front = h.front;
    rest = h.rest;
    is = h.is;
    size = h.size;
    some = h.some;
    next = h.next;
    more = h.more;
    viable = λ k. same.forth h.some _ k (h.viable k);
    wrong = λ b r k head found. h.wrong b r k head (same.back b (h.front ++ r) k found);
  }

-- an exit by `?`, from a failure in a part
pub exit : {X A B : Type 0} (view : X → B) (after : X → List ℕ) (r : Result X ReadError) (e : ReadError) {L : B → List ℕ → List ℕ → Type 0} {bytes : List ℕ} (R : A → List ℕ → List ℕ → Type 0) (part : List ℕ)
    → IsErrAnd r (λ y. y ≡ e) → Fails R part e → ((left : ℕ) → Halts R part left → Halts L bytes left) → Reads view after L bytes r
exit view after r e {L} {bytes} R part h f on =
    let p = err_from_is_err_and r h in
    rw (p.1, p.2) (fails_in R L part bytes e on f)

-- what puts readings together, for search
pub ruleset chains = (both, done, in_first, in_rest, both_spelled, gives_spelled, plain_one, plain_spelled)
