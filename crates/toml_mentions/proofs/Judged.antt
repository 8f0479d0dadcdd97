-- Which address is defined again, by what the judge of a text says.
use Rattle.std.proofs.Common.{◌≡◌, ℕ, List, Option, Some, Result, Ok, Err, refl, sym, ap, subst}
use Rattle.std.specs.Prelude.{IfOk, OnOk}
use Rattle.std.specs.declared.alloc.AllocError.{AllocError}
use Rattle.toml_tree.specs.Document.{Refuses}
use Rattle.toml_tree.specs.Profiles.{SpelledByNone}
use Rattle.toml_tree.specs.HandedOut.{AreLinesIn, tree_of}
use Rattle.toml_tree.specs.Tree.{Doc, Line}
use Rattle.toml_tree.specs.declared.profile.Profile.{Profile}
use Rattle.toml_tree.proofs.Proved.{one_tree_in}
use Rattle.toml_names.specs.model.Addresses.{Address}
use Rattle.toml_names.specs.declared.fault.NameFault.{NameFault}
use Rattle.toml_names.specs.declared.fault.NameFault.TheVariants.{Redefined, LongAddress, NoMemory}
use Rattle.toml_names.specs.declared.fault.ReadFault.{ReadFault}
use Rattle.toml_names.specs.declared.fault.ReadFault.TheVariants.{Syntax, Names}
use Rattle.toml_scalar.specs.declared.fault.SyntaxFault.{SyntaxFault}
use Rattle.toml_scalar.specs.declared.fault.SyntaxFault.TheVariants as syntax
use Rattle.toml_names.specs.reader.Names.{AreGood, IsRedefined, RefusesNames}
use Rattle.toml_names.specs.reader.Texts.{GoodText, IsOfMemory, RefusesText}
use Rattle.toml_mentions.specs.Redefined.{JudgedAt, address_told}
use Rattle.toml_names.proofs.Proved.{one_refusal, refused_are_bad}

pub same_lines : (profile : Profile) (text : List ℕ) (some others : List Line) → AreLinesIn profile text some → AreLinesIn profile text others → some ≡ others
same_lines profile text some others are also =
    ap (λ (d : Doc). d.lines) (one_tree_in profile (tree_of text some) (tree_of text others) text are.spelled also.spelled)

module _ (profile : Profile) (text : List ℕ) where
  pub good_is_not_redefined : GoodText profile text → (lines : List Line) (number : ℕ) (at : Address) → AreLinesIn profile text lines → ¬ IsRedefined lines number at
  good_is_not_redefined good lines number at are h =
      let same : good.lines ≡ lines = same_lines profile text good.lines lines good.are are in
      refused_are_bad lines (Redefined number at) h (λ (e : Redefined number at ≡ NoMemory). cc) (subst AreGood same good.good)

  pub none_spells : (fault : SyntaxFault) → ¬ (fault ≡ syntax.NoMemory) → Refuses profile text fault → SpelledByNone profile text
  none_spells (syntax.BadCharacter at) more refused = refused.1
  none_spells (syntax.Expected at) more refused = refused.1
  none_spells (syntax.BadString at) more refused = refused.1
  none_spells (syntax.BadNumber at) more refused = refused.1
  none_spells (syntax.IntegerRange at) more refused = refused.1
  none_spells (syntax.BadDate at) more refused = refused.1
  none_spells (syntax.TooDeep at) more refused = refused.1
  none_spells syntax.NoMemory more refused = absurd (more refl)

  pub judged : (fault : ReadFault) → ¬ IsOfMemory fault → RefusesText profile text fault → JudgedAt profile text (address_told fault)
  judged (Syntax fault) told refused lines number at are h = absurd (none_spells fault told refused (tree_of text lines) are.spelled)
  judged (Names fault) told refused lines number at are h =
      let got = refused told in
      let same : got.0 ≡ lines = same_lines profile text got.0 lines got.1 are in
      let one : fault ≡ Redefined number at =
      one_refusal lines fault (Redefined number at) (subst (λ ls. RefusesNames ls fault) same got.2) h told (λ (e : Redefined number at ≡ NoMemory). cc) in
      ap (λ f. address_told (Names f)) one

  pub told_at : (fault : ReadFault) → RefusesText profile text fault → (r : Result (Option Address) AllocError) → OnOk r (¬ IsOfMemory fault) → IfOk r (λ at. at ≡ address_told fault)
      → IfOk r (JudgedAt profile text)
  told_at fault refused (Ok found) says is = subst (JudgedAt profile text) (sym is) (judged fault says refused)
  told_at fault refused (Err e) says is = tt
