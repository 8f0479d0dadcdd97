-- What is found of an address that is defined again.
use Rattle.std.proofs.Common.{◌≡◌, ℕ, List, Option, Some, None, refl, sym, ap, ◌∙◌, subst, arith}
use Rattle.std.specs.Prelude.{option_map}
use Rattle.std.proofs.lemmas.Option.{none-some}
use Rattle.std.proofs.lemmas.Str.{IsUtf8-from_is_utf8}
use Rattle.toml_text.specs.Limit.{IsText}
use Rattle.toml_text.specs.Source.{IsFaultOf}
use Rattle.toml_text.specs.declared.fault.TextFault.{TextFault}
use Rattle.toml_text.specs.declared.fault.TextFault.TheVariants.{NotUtf8, TooLong}
use Rattle.toml_tree.specs.HandedOut.{AreLinesIn}
use Rattle.toml_tree.specs.Tree.{Piece, Line}
use Rattle.toml_tree.specs.declared.profile.Profile.{Profile}
use Rattle.toml_names.specs.model.Addresses.{Address}
use Rattle.toml_mentions.specs.Mentioned.{StandsForOffence}
use Rattle.toml_mentions.specs.Redefined.{AreClashing, JudgedAt}
use Rattle.toml_mentions.specs.Sought.{Sight, all_parts, first_clash, seen_clash, sights}
use Rattle.toml_mentions.specs.declared.seeker.Clash.{Clash}
use Rattle.toml_mentions.proofs.Clashes.{offence_is_clash}

pub no_text : (bytes : List ℕ) (fault : TextFault) → IsFaultOf bytes fault → ¬ IsText bytes
no_text bytes (NotUtf8 at) refused = λ text. refused.0 (IsUtf8-from_is_utf8 bytes text.utf8)
no_text bytes TooLong refused = λ text. let fits = text.fits in omega (arith, fits, refused.1)

seen_start : (clash : Option Clash) (f s : Sight) → seen_clash clash ≡ Some (f, s) → option_map (λ (c : Clash). c.again.span.start) clash ≡ Some s.span.start
seen_start None f s h = absurd (none-some (f, s) h)
seen_start (Some c) f s h =
    let got : option_map (λ (o : Sight × Sight). o.1.span.start) (seen_clash (Some c)) ≡ Some s.span.start = ap (option_map (λ (o : Sight × Sight). o.1.span.start)) h in
    got

pub finds : (profile : Profile) (bytes text : List ℕ) → text ≡ bytes → (found : Option Address) → JudgedAt profile text found → (address : Address) → found ≡ Some address → (clash : Option Clash)
    → ((lines : List Line) → AreLinesIn profile text lines → seen_clash clash ≡ first_clash (sights address (all_parts lines)))
    → (number : ℕ) (p : Piece) → StandsForOffence profile bytes number p → option_map (λ (c : Clash). c.again.span.start) clash ≡ Some p.start
finds profile bytes text is found judged address address_is clash sought number p h =
    let are : AreLinesIn profile text h.lines = subst (λ t. AreLinesIn profile t h.lines) (sym is) h.are in
    let at_is : Some address ≡ Some h.at = sym address_is ∙ judged h.lines number h.at are h.redefined in
    let same : address ≡ h.at = cc in
    let got = offence_is_clash h.lines number h.at h.redefined h.line h.here p h.stands in
    seen_start clash got.0 got.1 (sought h.lines are ∙ (ap (λ a. first_clash (sights a (all_parts h.lines))) same ∙ got.2)) ∙ ap (λ n. Some n) got.3

pub finds_none : (profile : Profile) (bytes text : List ℕ) → text ≡ bytes → JudgedAt profile text None → (number : ℕ) (p : Piece) → StandsForOffence profile bytes number p → ⊥
finds_none profile bytes text is judged number p h =
    none-some h.at (judged h.lines number h.at (subst (λ t. AreLinesIn profile t h.lines) (sym is) h.are) h.redefined)

-- the two mentions of which the second is refused
pub finds_both : (profile : Profile) (bytes text : List ℕ) → text ≡ bytes → (found : Option Address) → JudgedAt profile text found → (address : Address) → found ≡ Some address → (clash : Option Clash)
    → ((lines : List Line) → AreLinesIn profile text lines → seen_clash clash ≡ first_clash (sights address (all_parts lines)))
    → (number : ℕ) (first again : Sight) → AreClashing profile bytes number first again → seen_clash clash ≡ Some (first, again)
finds_both profile bytes text is found judged address address_is clash sought number first again h =
    let are : AreLinesIn profile text h.lines = subst (λ t. AreLinesIn profile t h.lines) (sym is) h.are in
    let at_is : Some address ≡ Some h.at = sym address_is ∙ judged h.lines number h.at are h.redefined in
    let same : address ≡ h.at = cc in
    sought h.lines are ∙ (ap (λ a. first_clash (sights a (all_parts h.lines))) same ∙ h.clash)

pub none_clash : (profile : Profile) (bytes text : List ℕ) → text ≡ bytes → JudgedAt profile text None → (number : ℕ) (first again : Sight) → AreClashing profile bytes number first again → ⊥
none_clash profile bytes text is judged number first again h =
    none-some h.at (judged h.lines number h.at (subst (λ t. AreLinesIn profile t h.lines) (sym is) h.are) h.redefined)
