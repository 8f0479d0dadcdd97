use Rattle.std.proofs.Common.{subst}
use Rattle.toml_text.specs.Source.{text_of}
use Rattle.toml_layout.specs.OpenOutlines.{leaf_text}
use Rattle.toml_working.specs.PuttingHeaders.{FindsEnd}
use Rattle.toml_working.specs.Starting.{read_of}
use Rattle.toml_working.proofs.Answered.{if_ok_both_of}
use Rattle.toml_working.proofs.FollowedEnd.{blank_put}
use Rattle.toml_working.proofs.working.Tree.put_blank.Goals as goal

pub returns-clause-put : goal.returns-clause-put
returns-clause-put c =
    let read = read_of c.args.before in
    let tree = c.args.self.now in
    if_ok_both_of _ _ _ c.put.result (λ done puts answers.
    blank_put (leaf_text tree.style) (text_of tree.texts.source) read c.in-Some.last c.in_ok-blank.blank tree.slots.items c.put.new.self.slots.items done
    (subst (FindsEnd tree.slots.items) c.in-Some.is c.last_line.ensures read) c.in_ok-blank.ensures.address c.in_ok-blank.ensures.base c.in_ok-blank.ensures.outline
    puts answers)
    c.put.ensures.put c.put.ensures.done
