use Rattle.std.proofs.Common.{rules, subst, ap, ◌∙◌, ◌≡◌, ◌≢◌, ◌++◌, [], string_bytes}
use Rattle.toml_units.specs.Pieces.{joined_text}
use Rattle.toml_units.specs.declared.piece.Piece.TheVariants.{New}
use Rattle.toml_working.proofs.Out.{joined_more, joined_longer}
use Rattle.toml_text.specs.Source.{text_of}
use Rattle.toml_working.proofs.Tidy.{new_grown, new_more, left_of_new, longer}
use Rattle.toml_working.specs.Tidy.{AreTidyUpTo}
use Rattle.toml_working.proofs.pieces.Pieces.write.Goals as goal
use Rattle.toml_working.proofs.pieces.Pieces.write.Goals.{in-Some, in-None}

pub invariant_of-self : goal.invariant_of-self
invariant_of-self c =
    let p = c.self.inside in
    left_of_new (text_of p.source) p.end p.list.items c.take_new.new.pieces.items c.take_new.result c.take_new.ensures c.self.invariant

pub invariant_of-self-in_err-push : goal.invariant_of-self-in_err-push
invariant_of-self-in_err-push c =
    let p = c.self.inside in
    rw c.in_err-push.ensures.items
    (left_of_new (text_of p.source) p.end p.list.items c.take_new.new.pieces.items c.take_new.result c.take_new.ensures c.self.invariant)

pub invariant_of-self-2 : goal.invariant_of-self-2
invariant_of-self-2 c =
    let p = c.self.inside in
    let text = text_of p.source in
    let left = c.take_new.new.pieces.items in
    let some : c.args.text.now ≢ [] = search rules in
    let full = longer (string_bytes c.match-take_new.new) c.args.text.now (string_bytes c.push_str.new.self) c.in_ok-push_str.ensures.bytes some in
    rw c.in_ok-push.ensures.items
    (elim c.match-take_new.branch [
      | in-Some w ↦ new_grown text p.end left w.in-Some.last c.push_str.new.self (subst (AreTidyUpTo text p.end) w.in-Some.ensures c.self.invariant) full
      | in-None w ↦ rw w.in-None.ensures.0 (new_more text p.end p.list.items c.self.invariant c.push_str.new.self full w.in-None.ensures.1)
    ])

pub returns : goal.returns
returns c =
    let p = c.self.inside in
    let text = text_of p.source in
    let left = c.take_new.new.pieces.items in
    let bytes = c.args.text.now in
    let new = c.push_str.new.self in
    let out : joined_text text c.push.new.self.items ≡ joined_text text p.list.items ++ bytes =
    rw c.in_ok-push.ensures.items
    (elim c.match-take_new.branch [
      | in-Some w ↦ rw w.in-Some.ensures (joined_longer text left (New w.in-Some.last) (New new) bytes (rw w.new-is at c.in_ok-push_str.ensures.bytes))
      | in-None w ↦
          let empty : string_bytes c.match-take_new.new ≡ [] = rw w.new-is w.new-new.ensures.bytes in
          let is : string_bytes new ≡ bytes = c.in_ok-push_str.ensures.bytes ∙ ap (λ r. r ++ bytes) empty in
          rw w.in-None.ensures.0 (joined_more text p.list.items (New new) ∙ ap (λ r. joined_text text p.list.items ++ r) is)
    ]) in
    (search rules, search rules)
