-- The programs of the product's walks are those of both graphs.
use Rattle.std.proofs.Common.{◌≡◌, ◌↔◌, ℕ, zero, suc, ◌+◌, ◌-◌, ◌*◌, ◌<◌, ◌≤◌, List, length, Option, Some, None, Result, Ok, Err, slice_get, subst, arith}
use Rattle.std.specs.Prelude.{IfOk, MatchOption}
use Rattle.fill_text.specs.declared.error.NoMemory.{NoMemory}
use Rattle.std.proofs.Math.Nat.{suc-mul}
use Rattle.fill_tree.specs.Tree.{Atoms}
use Rattle.fill_arena.specs.Contents.{Extends, HasNodes, HasSortedEdges}
use Rattle.fill_arena.specs.Stands.{ProgramStands, Walks}
use Rattle.fill_arena.specs.WellMade.{IsWellMade, IsGraphOf, IsSortedGraph, OlderAtoms}
use Rattle.fill_arena.specs.declared.entry.Entry.{Entry}
use Rattle.fill_arena.specs.declared.entry.Entry.TheVariants as kind
use Rattle.fill_arena.specs.declared.entry.Edge.{Edge}
use Rattle.fill_arena.proofs.Grows.{programs_stay}
use Rattle.fill_arena.proofs.Sets.{program_by_walk}
use Rattle.fill_arena.proofs.Sorted.{sorted_graph, stands_sorted}
use Rattle.fill_trim.specs.Marks.{HasNoWalk}
use Rattle.fill_trim.specs.Trim.{AreEdges, IsTrimmed}
use Rattle.fill_trim.specs.declared.trim.Trimmed.{Trimmed}
use Rattle.fill_meet.specs.Meet.{NoneInBoth, IsMeet}
use Rattle.fill_meet.specs.Product.{IsProduct, ArePairable}
use Rattle.fill_meet.specs.Walked.{IsWalked}
use Rattle.fill_meet.proofs.Grows.{atoms_within}
use Rattle.fill_meet.proofs.Products.{product_stays}
use Rattle.fill_trim.proofs.Programs.{walk_sets, trimmed_walks}
use Rattle.fill_meet.proofs.WalksOn.{product_walks, product_short, corner}

pub graph_edges : (c : List Entry) (n nodes : ℕ) (edges : List Edge) → IsSortedGraph c n nodes edges → AreEdges nodes edges
graph_edges c n nodes edges g = record { onward = λ k e h. (let x = g.graph.each k e h in (x.onward, x.within)); ordered = g.topological }

pub positive_product : (h w : ℕ) → 0 < h → 0 < w → 0 < h * w
positive_product zero w a b = absurd (omega arith)
positive_product (suc h) w a b = let one = suc-mul h w in omega arith

module _ (c : List Entry) (a b height width : ℕ) (xs ys : List Edge) (made : IsWellMade c) (ha : HasNodes c a height × HasSortedEdges c a xs) (hb : HasNodes c b width × HasSortedEdges c b ys) where
  first_graph : IsSortedGraph c a height xs
  first_graph = sorted_graph c a height xs ha.0 ha.1 made

  second_graph : IsSortedGraph c b width ys
  second_graph = sorted_graph c b width ys hb.0 hb.1 made

  pub are_pairable : ArePairable c height width xs ys
  are_pairable = record {
    first = graph_edges c a height xs first_graph;
    second = graph_edges c b width ys second_graph;
    left = λ k e h. (first_graph.graph.each k e h).atoms.0;
    right = λ k e h. (second_graph.graph.each k e h).atoms.0;
  }

  pub some_nodes : 0 < height * width
  some_nodes = positive_product height width first_graph.graph.some second_graph.graph.some

  stands_by_walk : (e : List Entry) → Extends c e → (g nodes : ℕ) (edges : List Edge) → HasNodes c g nodes × HasSortedEdges c g edges → (p : Atoms) → Walks p e edges (nodes - 1) 0 ↔ ProgramStands c g p
  stands_by_walk e o g nodes edges h p =
      let order = h.1 in
      let given = order.1 in
      let now = stands_sorted e g nodes edges (h.0.0, o g (kind.Graph nodes h.0.0) h.0.1) (order.0, (given.0, o g (kind.Graph given.0 order.0) given.1), order.2) p in
      let stay = programs_stay c e made o g p (given.0, order.0, given.1) in
      (λ w. stay.1 (now.1 w), λ s. now.0 (stay.0 s))

  module _ (d : List Entry) (o : Extends c d) (edges : List Edge) (product : IsProduct d height width xs ys edges) where
    product_stands : (e : List Entry) → Extends d e → (p : Atoms) → Walks p e edges (height * width - 1) 0 ↔ (ProgramStands c a p × ProgramStands c b p)
    product_stands e q p =
        let oe : Extends c e = λ n x h. q n x (o n x h) in
        let ey = graph_edges c b width ys second_graph in
        let bw = second_graph.graph.some in
        let now = product_stays d e q height width xs ys edges product in
        let at : height * width - 1 ≡ (height - 1) * width + (width - 1) = corner height width first_graph.graph.some bw in
        let start : 0 ≡ 0 * width + 0 = omega arith in
        let sa = stands_by_walk e oe a height xs ha p in
        let sb = stands_by_walk e oe b width ys hb p in (
          λ w.
              let both = product_walks e width xs ys edges ey now.sound p 0 0 (height - 1) (width - 1) 0 bw (omega arith) start (subst (λ n. Walks p e edges n 0) at w) in
              (sa.0 both.0, sb.0 both.1),
          λ h. product.whole e q p (sa.1 h.0) (sb.1 h.1),
        )

    pub none_stands : HasNoWalk (height * width) edges → NoneInBoth c a b
    none_stands none p h =
        let w = walk_sets p d edges (height * width - 1) 0 ((product_stands d (λ n x k. k) p).1 h) in
        none w.0 w.1

    module _ (t : Trimmed) (trimmed : IsTrimmed (height * width) edges t) where
      trimmed_graph : IsGraphOf d (length d) t.nodes t.edges
      trimmed_graph =
          let short = product_short d width xs ys edges (graph_edges c b width ys second_graph) product.sound first_graph.graph.short in
          record {
            some = trimmed.some;
            each = λ k e h.
                (let on = trimmed.are.onward k e h in
                let f = trimmed.origin k e h in
                let s = product.sound f.1.0 f.0 f.1.1 in
                let set = (s.2.2.met.some d (λ n x i. i)).1 in
                record { onward = on.0; within = on.1; atoms = subst (λ n. OlderAtoms d (length d) n) f.2 (atoms_within d f.0.atoms (set.0, set.1)) });
            from_first = trimmed.from_first;
            to_last = trimmed.to_last;
            short = λ from to path walk.
                (let old = trimmed.short from to path walk in
                subst (λ n. n ≤ 100) old.4 (short old.0 old.1 old.2 old.3));
          }

      pub walked : IsWalked c a b d t
      walked =
          record {
            graph = trimmed_graph;
            walks = λ e q p.
                (let first = trimmed_walks (height * width) edges t trimmed e p in
                let second = product_stands e q p in
                (λ w. second.0 (first.0 w), λ h. first.1 (second.1 h)));
          }

    pub walked_result : (nodes : ℕ) → nodes ≡ height * width → (r : Result (Option Trimmed) NoMemory) → IfOk r (λ made. MatchOption made (HasNoWalk nodes edges) (IsTrimmed nodes edges))
        → IfOk r (λ made. MatchOption made (NoneInBoth c a b) (IsWalked c a b d))
    walked_result nodes e (Ok None) h = none_stands (subst (λ n. HasNoWalk n edges) e h)
    walked_result nodes e (Ok (Some t)) h = walked t (subst (λ n. IsTrimmed n edges t) e h)
    walked_result nodes e (Err x) h = h

pub is_meet : (c : List Entry) (a b : ℕ) (d e : List Entry) (t : Trimmed) (g : ℕ) → IsWalked c a b d t → Extends d e → slice_get e g ≡ Some (kind.Graph t.nodes t.edges) → IsMeet c a b e g
is_meet c a b d e t g w o at = (
  (t.nodes, t.edges, at),
  λ p.
      let now = program_by_walk e g t.nodes t.nodes t.edges t.edges p (Walks p e t.edges (t.nodes - 1) 0) at at (λ x. x, λ x. x) in
      let both = w.walks e o p in
      (λ s. both.0 (now.1 s), λ s. now.0 (both.1 s)),
)
