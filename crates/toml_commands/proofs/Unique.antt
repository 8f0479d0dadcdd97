-- A document has one line of tagged JSON and one list of its addresses.
use Rattle.std.proofs.Common.{◌≡◌, ℕ, List, [], ◌∷◌, ◌++◌, Option, Some, None, refl, sym, ap, ◌∙◌, subst}
use Rattle.std.proofs.Math.Path.{fun_ext}
use Rattle.serde_json.specs.Written.{compact_text}
use Rattle.toml_tree.specs.Tree.{Doc}
use Rattle.toml_tree.proofs.Proved.{one_tree}
use Rattle.toml_tree.specs.declared.profile.Profile.{Profile}
use Rattle.toml_names.specs.model.Data.{Kinds, IsDataOf}
use Rattle.toml_names.specs.mentions.FirstMentions.{first_mentions}
use Rattle.toml_names.specs.mentions.Mentions.{Kind, Named, named}
use Rattle.toml_print.specs.Tagged.{IsTagged}
use Rattle.toml_print.proofs.Proved.{one_tagged}
use Rattle.toml_commands.specs.Listing.{ListsAddresses, lines_of}
use Rattle.toml_commands.specs.Show.{ShowsData}

-- what is named has one map
same_kind : (o p : Option Kind) → ((k : Kind) → o ≡ Some k → p ≡ Some k) → ((k : Kind) → p ≡ Some k → o ≡ Some k) → o ≡ p
same_kind None None h g = refl
same_kind None (Some k) h g = g k refl
same_kind (Some k) p h g = sym (h k refl)

one_map : (ms : List Named) (f g : Kinds) → IsDataOf ms f → IsDataOf ms g → f ≡ g
one_map ms f g h k = fun_ext (λ at. same_kind (f at) (g at) (λ kind is. (k at kind).1 ((h at kind).0 is)) (λ kind is. (h at kind).1 ((k at kind).0 is)))

pub one_line : (profile : Profile) (bytes l m : List ℕ) → ShowsData profile bytes l → ShowsData profile bytes m → l ≡ m
one_line profile bytes l m h k =
    let doc : h.doc ≡ k.doc = one_tree h.doc k.doc bytes h.spelled.0 k.spelled.0 in
    let map : h.kinds ≡ k.kinds = one_map (named k.doc.lines) h.kinds k.kinds (subst (λ (d : Doc). IsDataOf (named d.lines) h.kinds) doc h.facts) k.facts in
    let json : h.shown.json ≡ k.shown.json = one_tagged k.kinds h.shown.json k.shown.json (subst (λ (f : Kinds). IsTagged f h.shown.json) map h.shown.tagged) k.shown.tagged in
    h.shown.is ∙ (ap (λ j. compact_text j ++ 0x0A ∷ []) json ∙ sym k.shown.is)

pub one_listing : (profile : Profile) (bytes l m : List ℕ) → ListsAddresses profile bytes l → ListsAddresses profile bytes m → l ≡ m
one_listing profile bytes l m h k =
    let doc : h.doc ≡ k.doc = one_tree h.doc k.doc bytes h.spelled.0 k.spelled.0 in
    h.listed ∙ (ap (λ (d : Doc). lines_of (first_mentions (named d.lines))) doc ∙ sym k.listed)
