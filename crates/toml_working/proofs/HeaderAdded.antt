-- A header line that is put in, in both layouts.
use Rattle.std.proofs.Common.{◌≡◌, ◌∙◌, ℕ, Bool, true, false, ◌&&◌, ◌||◌, cond, not, List, [], ◌∷◌, Option, ap, sym, subst}
use Rattle.std.proofs.Math.Bool.{or-false}
use Rattle.std.specs.List.{list_any}
use Rattle.std.specs.declared.alloc.Global.{Global}
use Rattle.std.specs.declared.string.String.{String}
use Rattle.toml_names.specs.model.Addresses.{Address}
use Rattle.toml_text.specs.Source.{text_of}
use Rattle.toml_layout.specs.OpenOutlines.{leaf_text}
use Rattle.toml_layout.specs.declared.layout.Layout.{Layout}
use Rattle.toml_layout.specs.declared.layout.Layout.TheVariants as layouts
use Rattle.toml_layout.specs.declared.tree.Brackets.{Brackets}
use Rattle.toml_working.specs.declared.lines.Sought.TheVariants as sought
use Rattle.toml_working.specs.declared.working.Position.{Position}
use Rattle.toml_working.specs.declared.working.Tree.{Tree}
use Rattle.toml_working.specs.AddingHeaders.{LaysOutHeader, TreeAddsHeader}
use Rattle.toml_working.specs.Following.{TreeFollows}
use Rattle.toml_working.specs.HeaderStanding.{ElementIn, blank_laid_out, header_laid_out}
use Rattle.toml_working.specs.Headers.{ElementStands, new_header, put_plainly}
use Rattle.toml_working.specs.Putting.{manner}
use Rattle.toml_working.specs.PuttingHeaders.{AddsPlainly}
use Rattle.toml_working.specs.Seeing.{HoldsNone, IsSoughtAt}
use Rattle.toml_working.specs.Standing.{Standing, Read, StandAlone, holds}
use Rattle.toml_working.specs.Stands.{KeepsRest, Stands}
use Rattle.toml_working.proofs.Alone.{sought_there}

module _ (q p : Address) (element : Option Address) (brackets : Brackets) (steps : List (String Global)) (read : Read) (old : Tree) where
  abbrev text : List ℕ
  text = text_of old.texts.source

  abbrev put_in : Layout → List Standing → List Standing
  put_in layout ss = header_laid_out layout q p brackets (manner old) ss

  abbrev blank_in : Layout → List Standing → Bool
  blank_in layout ss = blank_laid_out layout q p brackets (manner old) ss

  -- in a layout
  pub plain_adds : (now : Tree) (done : Bool) → old.texts.layout ≡ layouts.Plain
      → KeepsRest old now → AddsPlainly element p brackets steps (leaf_text old.style) text read old.slots.items now.slots.items done
      → LaysOutHeader q element p brackets steps read old now done
  plain_adds now done is keeps adds asked ss stands some in_element =
      let together : ElementStands element ss = subst (λ o. ElementStands o ss) (sym asked.inner) (subst (λ l. ElementIn l q ss) is in_element) in
      let (put, answer) = adds asked.spells ss stands some together in (
        subst (Stands text read now.slots.items)
            (ap (λ o. put_plainly o (new_header p brackets []) (leaf_text old.style) ss) asked.inner ∙ ap (λ l. put_in l ss) (sym is)) put,
        answer,
        keeps.blank ∙ sym (or-false old.has_written_blank) ∙ ap (λ l. old.has_written_blank || blank_in l ss) (sym is),
      )

  pub follow_adds : (now : Tree) (done : Bool) → old.texts.layout ≡ layouts.Follow → TreeFollows q p brackets steps read old now done
      → LaysOutHeader q element p brackets steps read old now done
  follow_adds now done is follows asked ss stands some in_element =
      let (put, answer, wrote) = follows asked.array asked.spells ss stands some in (
        subst (Stands text read now.slots.items) (ap (λ l. put_in l ss) (sym is)) put,
        answer,
        wrote ∙ ap (λ l. old.has_written_blank || blank_in l ss) (sym is),
      )

  -- a line's value stands right above, or holds what does
  pub refused : (place : Position) → IsSoughtAt sought.Holder q read old.slots.items place → TreeAddsHeader q element p brackets steps read old old false
  refused place found asked ss stands ordered take =
      let held : list_any (holds q) ss ≡ true = ap (list_any (holds q)) (sym stands.are) ∙ sought_there sought.Holder q read old.slots.items place found in (
        subst (Stands text read old.slots.items) (sym (ap (λ b. cond b ss (put_in old.texts.layout ss)) held)) stands,
        sym (ap not held),
        sym (or-false old.has_written_blank) ∙ ap (λ b. old.has_written_blank || (not b && blank_in old.texts.layout ss)) (sym held),
      )

  -- none does
  pub added : (now : Tree) (done : Bool) → HoldsNone q read.units old.slots.items → LaysOutHeader q element p brackets steps read old now done
      → TreeAddsHeader q element p brackets steps read old now done
  added now done none adds asked ss stands ordered take =
      let free : list_any (holds q) ss ≡ false = none_held q none in
      let (put, answer, wrote) = adds asked ss stands take.some take.element in (
        subst (Stands text read now.slots.items) (sym (ap (λ b. cond b ss (put_in old.texts.layout ss)) free)) put,
        answer ∙ sym (ap not free),
        wrote ∙ ap (λ b. old.has_written_blank || (not b && blank_in old.texts.layout ss)) (sym free),
      )
    where
      none_held : (r : Address) → HoldsNone r read.units old.slots.items → list_any (holds r) ss ≡ false
      none_held [] h = take.root
      none_held (s ∷ r) h =
          ap (list_any (holds (s ∷ r))) (sym stands.are) ∙ h (λ e. cc) read.lines (subst StandAlone (sym stands.are) ordered.alone)
