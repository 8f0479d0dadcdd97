-- What is seen of a list of edits tells which units it names, and where it carries them.
use Rattle.std.proofs.Common.{◌≡◌, ℕ, ◌+◌, ◌-◌, ◌<◌, ◌^◌, List, [], ◌∷◌, length, Option, Some, None, is_some, Bool, true, false, refl, sym, ap, ◌∙◌, arith}
use Rattle.std.proofs.Math.Logic.{∥∥₁_elim, ∥∥₁_map}
use Rattle.std.proofs.Props.{props}
use Rattle.std.specs.Prelude.{not, ◌&&◌, IfOk, IfSome, Result, Ok, Err, option_map, option_and_then}
use Rattle.toml_names.specs.model.Addresses.{Address}
use Rattle.toml_names.specs.model.Indices.{IsLow}
use Rattle.toml_edits.specs.declared.side.Side.{Side}
use Rattle.toml_edits.specs.declared.walking.Sight.TheVariants as sights
use Rattle.toml_edits.specs.declared.walking.Trace.{Trace}
use Rattle.toml_edits.specs.Carry.{carry}
use Rattle.toml_edits.specs.Edits.{Change, place}
use Rattle.toml_edits.specs.Fitting.{FitsOne, takes_away}
use Rattle.toml_edits.specs.Lists.{carried}
use Rattle.toml_edits.specs.Notes.{noted, seen, sort, untouched}
use Rattle.toml_edits.specs.Sides.{side}
use Rattle.toml_edits.specs.Told.{IsTrace, Sees}
use Rattle.toml_edits.specs.Trees.{Seen}
use Rattle.toml_edits.proofs.Proved.{living, seen_is_carried, stays_low}
use Rattle.toml_checker.specs.declared.edit_list.EditList.{EditList}
use Rattle.toml_checker.specs.declared.tables.Part.{Part}
use Rattle.toml_checker.specs.declared.tables.Part.TheVariants as parts
use Rattle.toml_checker.specs.EditLists.{changes}
use Rattle.toml_checker.specs.Plain.{is_named, stands}
use Rattle.toml_checker.specs.Sights.{HasSight, SeenIsStands, seen_by, stands_by, tells}
use Rattle.toml_checker.proofs.Named.{named_away, noted_tells}
use Rattle.toml_checker.proofs.Sent.{lower}

stays_alone : (part : Part) (base : Option ℕ) (a : Address) → tells part base (Some (untouched a)) ≡ true
stays_alone parts.Line None a = refl
stays_alone parts.Line (Some n) a = refl
stays_alone parts.Home None a = refl
stays_alone parts.Home (Some n) a = refl
stays_alone parts.Element base a = refl
stays_alone parts.Comment base a = refl

flip : (b : Bool) → false ≡ not b → b ≡ true
flip true h = refl
flip false h = cc

flop : (b : Bool) → true ≡ not b → b ≡ false
flop true h = cc
flop false h = refl

and_false : (b : Bool) → false ≡ b && false
and_false true = refl
and_false false = refl

filled : (p : Address) → ¬ (p ≡ []) → 0 < length p
filled [] h = absurd (h refl)
filled (s ∷ p) h = omega arith

pub seen_is_stands : SeenIsStands
seen_is_stands part base [] placed n a low room = stays_alone part base a
seen_is_stands part base (c ∷ cs) (placed, rest) n a low room = by (carry c a) (living c a fits) (stays_low n c a low) (λ b l. seen_is_stands part base cs rest (n + 1) b l (omega (arith, room)))
  where
    fits : FitsOne c a
    fits = record { placed = placed; low = lower n (2 ^ 64 - 1) (omega (arith, room)) a low }

    x : Side
    x = side (place c) a

    kept : takes_away c x ≡ false → (z : Option Seen) → tells part base (option_map (noted (sort c) (place c) a) z) ≡ not (is_named part c base x) && tells part base z
    kept h None = and_false (not (is_named part c base x))
    kept h (Some s) = noted_tells part base c x (length (place c)) refl (filled (place c) placed) h s

    by : (y : Option Address) → is_some y ≡ not (takes_away c x) → IfSome y (IsLow (n + 1)) → ((b : Address) → IsLow (n + 1) b → tells part base (seen cs b) ≡ stands part cs (Some b) base)
        → tells part base (option_map (noted (sort c) (place c) a) (option_and_then (seen cs) y)) ≡ not (is_named part c base x) && stands part cs y base
    by None h l next = sym (ap (λ (b : Bool). not b && stands part cs None base) (named_away part base c x (flip (takes_away c x) h)))
    by (Some b) h l next = kept (flop (takes_away c x) h) (seen cs b) ∙ ap (λ (d : Bool). not (is_named part c base x) && d) (next b l)

-- ---- what the code's sight shows

sees_stands : (part : Part) (base : Option ℕ) (cs : List Change) (a : Address) (o : Option Seen) → Sees cs a o → stands part cs (Some a) base ≡ tells part base o
sees_stands part base cs a o w = sym (seen_is_stands part base cs w.placed (2 ^ 63) a w.low (let few = w.few in omega arith)) ∙ ap (tells part base) w.is

pub nowhere_stands_not : (part : Part) (base : Option ℕ) (list : EditList) (a : Address) → HasSight list (Some a) sights.Nowhere → stands part (changes list) (Some a) base ≡ false
nowhere_stands_not part base list a h = ∥∥₁_elim h (hlevel props) (λ w. sees_stands part base (changes list) a None w)

-- where it stands plays no part
wherever : (part : Part) (base : Option ℕ) (s : Seen) → stands_by part base (record { to = []; set = s.set; below = s.below; renamed = s.renamed }) ≡ stands_by part base s
wherever parts.Line None s = refl
wherever parts.Line (Some n) s = refl
wherever parts.Home None s = refl
wherever parts.Home (Some n) s = refl
wherever parts.Element base s = refl
wherever parts.Comment base s = refl

traced : (part : Part) (base : Option ℕ) (s : Seen) (a : Address) (t : Trace) → IsTrace s a t → stands_by part base (seen_by t) ≡ stands_by part base s
traced part base s a t h =
    ap (λ (x : Bool). stands_by part base (record { to = []; set = x; below = t.below; renamed = t.renamed })) h.set
    ∙ ap (λ (x : Bool). stands_by part base (record { to = []; set = s.set; below = x; renamed = t.renamed })) h.below
    ∙ ap (λ (x : Option ℕ). stands_by part base (record { to = []; set = s.set; below = s.below; renamed = x })) h.renamed ∙ wherever part base s

pub somewhere_stands : (part : Part) (base : Option ℕ) (list : EditList) (a : Address) (t : Trace) → HasSight list (Some a) (sights.Somewhere t) → stands part (changes list) (Some a) base ≡ stands_by part base (seen_by t)
somewhere_stands part base list a t h = ∥∥₁_elim h (hlevel props) (λ w. sees_stands part base (changes list) a (Some w.0) w.1 ∙ sym (traced part base w.0 a t w.2))

pub somewhere_stays : (t : Trace) → t.moved ≡ false → (list : EditList) (a : Address) → HasSight list (Some a) (sights.Somewhere t) → carried (changes list) a ≡ Some a
somewhere_stays t still list a h =
    ∥∥₁_elim h (hlevel props) (λ w. sym (seen_is_carried (changes list) a) ∙ ap (option_map (λ (s : Seen). s.to)) w.1.is ∙ ap Some (w.2.stays still))

-- what is found of a list that is told
pub found_so : {A E P : Type 0} (r : Result A E) (Q : A → Type 0) → ∥ P ∥₁ → (P → IfOk r Q) → IfOk r (λ x. ∥ Q x ∥₁)
found_so (Ok x) Q w f = ∥∥₁_map w f
found_so (Err e) Q w f = tt
