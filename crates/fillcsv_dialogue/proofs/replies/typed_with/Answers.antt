use Rattle.std.proofs.Common.{◌∙◌, ◌∷◌, ◌++◌, [], List, ap, arith, sym}
use Rattle.std.specs.Prelude.{filter_map}
use Rattle.fill_tree.specs.declared.user.Example.{Example}
use Rattle.fillcsv_dialogue.specs.Replies.{example_of}
use Rattle.fillcsv_dialogue.proofs.Taking.{taught_more}
use Rattle.fillcsv_dialogue.proofs.replies.typed_with.Goals as goal

pub loop-reply-preserved : goal.loop-reply-preserved
loop-reply-preserved c =
    c.in_ok-put_example.ensures ∙ (ap (λ (l : List Example). l ++ filter_map example_of (c.reply-item.result ∷ [])) c.loop-reply.invariant
    ∙ sym (taught_more example_of c.args.kept.now c.loop-reply.reply-index c.reply-item.result (omega arith) c.reply-item.is))
