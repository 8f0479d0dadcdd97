-- What the code's walks show.
use Rattle.std.proofs.Common.{◌≡◌, ◌<◌, ◌^◌, List, [], ◌∷◌, ◌++◌, length, Option, Some, None, Bool, false, refl, sym, ap, subst, ◌∙◌, append_assoc, arith}
use Rattle.std.specs.Prelude.{◌||◌, option_map}
use Rattle.toml_names.specs.declared.model.address.Step.{Step}
use Rattle.toml_names.specs.model.Addresses.{Address}
use Rattle.toml_names.specs.model.Indices.{IsLow}
use Rattle.toml_edits.specs.declared.moves.Moves.{Moves}
use Rattle.toml_edits.specs.declared.walking.Sight.{Sight}
use Rattle.toml_edits.specs.declared.walking.Sight.TheVariants as sights
use Rattle.toml_edits.specs.declared.walking.Trace.{Trace}
use Rattle.toml_edits.specs.Edits.{Change}
use Rattle.toml_edits.specs.Lists.{carried}
use Rattle.toml_edits.specs.Moves.{down_of, marks_of, moves}
use Rattle.toml_edits.specs.Notes.{seen, untouched}
use Rattle.toml_edits.specs.Told.{HasSight, Sees, TellsOf}
use Rattle.toml_edits.specs.Trees.{Told, Tells, Seen, one_deeper, seen_above, seen_here, told_above, walk}
use Rattle.toml_edits.specs.Walks.{IsDeeper, IsHere, IsShown, Leads}
use Rattle.toml_edits.proofs.Noting.{step_on, walk_none}
use Rattle.toml_edits.proofs.WalkSeen.{seen_is_carried}

pub shown_none : (o : Option Moves) (a : Address) (t : Trace) → o ≡ None → (t.set ≡ false) × (t.below ≡ false) × (t.renamed ≡ None) × (t.moved ≡ false) → IsShown (walk moves o a) a (sights.Somewhere t)
shown_none o a t is h =
    (untouched a, ap (λ x. walk moves x a) is ∙ walk_none moves a, record { set = h.0; below = h.1; renamed = h.2; stays = λ e. refl })

pub shown_here : (o : Option Moves) (t : Moves) (a : Address) (trace : Trace) → o ≡ Some t → a ≡ [] → IsHere t trace → IsShown (walk moves o a) a (sights.Somewhere trace)
shown_here o t a trace is root h =
    (seen_here (marks_of t), ap (λ x. walk moves x a) is ∙ ap (walk moves (Some t)) root, record { set = h.set; below = h.below; renamed = h.renamed; stays = λ e. sym root })

walked : (o : Option Moves) (t : Moves) (s : Step) (r a : Address) → o ≡ Some t → a ≡ s ∷ r → walk moves o a ≡ step_on moves (marks_of t).renamed r (down_of t s)
walked o t s r a is at = ap (λ x. walk moves x a) is ∙ ap (walk moves (Some t)) at

on_step : (o : Option Moves) (t : Moves) (s u : Step) (below : Option Moves) (r a : Address) → o ≡ Some t → a ≡ s ∷ r → down_of t s ≡ Some (Some (record { to = u; tree = below }))
    → walk moves o a ≡ told_above u (marks_of t).renamed (walk moves below r)
on_step o t s u below r a is at e = walked o t s r a is at ∙ ap (step_on moves (marks_of t).renamed r) e

or_left : (b d : Bool) → b || d ≡ false → b ≡ false
or_left b d e = grind arith

or_right : (b d : Bool) → b || d ≡ false → d ≡ false
or_right b d e = grind arith

pub shown_on : (o : Option Moves) (t : Moves) (s u : Step) (below : Option Moves) (r a : Address) → o ≡ Some t → a ≡ s ∷ r → down_of t s ≡ Some (Some (record { to = u; tree = below })) → (one new : Trace) → IsShown (walk moves below r) r (sights.Somewhere one)
    → (m : Bool) → (m ≡ false → u ≡ s) → IsDeeper (marks_of t).renamed m one new → IsShown (walk moves o a) a (sights.Somewhere new)
shown_on o t s u below r a is at e one new (n, w, h) m same deeper = (
  seen_above u (marks_of t).renamed n,
  on_step o t s u below r a is at e ∙ ap (told_above u (marks_of t).renamed) w,
  record {
    set = deeper.set ∙ h.set;
    below = deeper.below ∙ h.below;
    renamed = deeper.renamed ∙ ap (one_deeper (marks_of t).renamed) h.renamed;
    stays = λ x. ap (λ y. y ∷ n.to) (same (or_left m one.moved (sym deeper.moved ∙ x))) ∙ ap (λ y. s ∷ y) (h.stays (or_right m one.moved (sym deeper.moved ∙ x))) ∙ sym at;
  },
)

-- what is told of the list
told_so : (x : Told (Option Seen)) (y z : Option Seen) → x ≡ Some y → Tells x z → z ≡ y
told_so x y z e h = sym (subst (λ w. Tells w z) e h)

seen_as : (cs : List Change) (t : Moves) (a : Address) (o : Option Seen) → IsLow (2 ^ 63) a → walk moves (Some t) a ≡ Some o → TellsOf cs t → length cs < 2 ^ 63 → Sees cs a o
seen_as cs t a o low e tells few = record { placed = tells.placed; low = low; few = few; is = told_so _ o (seen cs a) e (tells.shows (2 ^ 63) a low (omega (arith, few))) }

pub sight_is : (cs : List Change) (t : Moves) (a : Address) (sight : Sight) → IsLow (2 ^ 63) a → IsShown (walk moves (Some t) a) a sight → TellsOf cs t → length cs < 2 ^ 63 → HasSight cs a sight
sight_is cs t a sights.Unknown low h tells few = tt
sight_is cs t a sights.Nowhere low h tells few = seen_as cs t a None low h tells few
sight_is cs t a (sights.Somewhere trace) low (s, e, h) tells few = (s, seen_as cs t a (Some s) low e tells few, h)

pub nowhere_is : (cs : List Change) (a : Address) → Sees cs a None → carried cs a ≡ None
nowhere_is cs a w = sym (seen_is_carried cs a) ∙ ap (option_map (λ (s : Seen). s.to)) w.is

pub leads_is : (cs : List Change) (t : Moves) (a : Address) (to : List Step) → IsLow (2 ^ 63) a → Leads (walk moves (Some t) a) [] to → TellsOf cs t → length cs < 2 ^ 63 → carried cs a ≡ Some to
leads_is cs t a to low (s, e, is) tells few =
    sym (seen_is_carried cs a) ∙ ap (option_map (λ (s : Seen). s.to)) (told_so _ (Some s) (seen cs a) e (tells.shows (2 ^ 63) a low (omega (arith, few)))) ∙ ap Some (sym is)

pub leads_none : (o : Option Moves) (a old new : Address) → o ≡ None → new ≡ old ++ a → Leads (walk moves o a) old new
leads_none o a old new is e = (untouched a, ap (λ x. walk moves x a) is ∙ walk_none moves a, e)

pub leads_here : (o : Option Moves) (t : Moves) (a old new : Address) → o ≡ Some t → a ≡ [] → new ≡ old ++ [] → Leads (walk moves o a) old new
leads_here o t a old new is root e = (seen_here (marks_of t), ap (λ x. walk moves x a) is ∙ ap (walk moves (Some t)) root, e)

pub leads_on : (o : Option Moves) (t : Moves) (s u : Step) (below : Option Moves) (r a old mid new : Address) → o ≡ Some t → a ≡ s ∷ r → down_of t s ≡ Some (Some (record { to = u; tree = below })) → mid ≡ old ++ u ∷ [] → Leads (walk moves below r) mid new
    → Leads (walk moves o a) old new
leads_on o t s u below r a old mid new is at e pushed (n, w, h) = (
  seen_above u (marks_of t).renamed n,
  on_step o t s u below r a is at e ∙ ap (told_above u (marks_of t).renamed) w,
  h ∙ ap (λ x. x ++ n.to) pushed ∙ append_assoc old (u ∷ []) n.to,
)
