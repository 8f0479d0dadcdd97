-- A part that was taken out, changed and put back.
use Rattle.std.proofs.Common.{◌≡◌, [], ◌∷◌, ◌++◌, length, Option, Some, IsSome, is_some, Bool, true, false, cond, refl, ap, ◌∙◌, arith}
use mathlib.Core.Path.{fun_ext}
use Rattle.toml_names.specs.declared.model.address.Step.{Step}
use Rattle.toml_names.specs.declared.model.datum.Datum.{Datum}
use Rattle.toml_names.specs.model.Addresses.{Address, same_step}
use Rattle.toml_names.specs.model.Building.{with_child}
use Rattle.toml_names.specs.model.Data.{Kinds, kind_at}
use Rattle.toml_names.specs.mentions.Mentions.{Kind}
use Rattle.toml_names.proofs.Proved.{step_there, same_step-equal}
use Rattle.toml_edits.specs.declared.change.DatumChange.{DatumChange}
use Rattle.toml_edits.specs.declared.change.DatumChange.TheVariants.{Put, AddMember, AddElement, Rename, DropMember, DropElement}
use Rattle.toml_edits.specs.Changed.{below, IsApplicable}

twice : (b : Bool) (x y z : Option Kind) → cond b x (cond b y z) ≡ cond b x z
twice true x y z = refl
twice false x y z = refl

pub put_back : (s : Step) (p : Address) (g : Kinds → Kinds) (kinds hollow whole hole old new : Kinds)
    → ((at : Address) → old at ≡ kinds (s ∷ at)) → ((at : Address) → hollow at ≡ with_child s hole kinds at)
    → ((at : Address) → new at ≡ below p g old at) → ((at : Address) → whole at ≡ with_child s new hollow at)
    → (at : Address) → whole at ≡ below (s ∷ p) g kinds at
put_back s p g kinds hollow whole hole old new is out change back [] = back [] ∙ out []
put_back s p g kinds hollow whole hole old new is out change back (t ∷ at) =
    back (t ∷ at) ∙ ap (cond (same_step s t) (new at)) (out (t ∷ at)) ∙ twice (same_step s t) _ _ _
    ∙ ap (λ x. cond (same_step s t) x (kinds (t ∷ at))) (change at ∙ ap (λ (h : Kinds). below p g h at) (fun_ext is))

unchanged : (s t : Step) (kinds : Kinds) (at : Address) (b : Bool) → same_step s t ≡ b → cond b (kinds (s ∷ at)) (kinds (t ∷ at)) ≡ kinds (t ∷ at)
unchanged s t kinds at false is = refl
unchanged s t kinds at true is = ap (λ (x : Step). kinds (x ∷ at)) (same_step-equal s t is)

pub put_back_same : (s : Step) (kinds hollow whole hole old new : Kinds)
    → ((at : Address) → old at ≡ kinds (s ∷ at)) → ((at : Address) → hollow at ≡ with_child s hole kinds at)
    → ((at : Address) → new at ≡ old at) → ((at : Address) → whole at ≡ with_child s new hollow at)
    → (at : Address) → whole at ≡ kinds at
put_back_same s kinds hollow whole hole old new is out same back [] = back [] ∙ out []
put_back_same s kinds hollow whole hole old new is out same back (t ∷ at) =
    back (t ∷ at) ∙ ap (cond (same_step s t) (new at)) (out (t ∷ at)) ∙ twice (same_step s t) _ _ _
    ∙ ap (λ x. cond (same_step s t) x (kinds (t ∷ at))) (same at ∙ is at) ∙ unchanged s t kinds at _ refl

pub no_steps : (steps : Address) → length steps ≡ 0 → steps ≡ []
no_steps [] h = refl
no_steps (s ∷ steps) h = absurd (omega arith)

some_if : (o : Option Kind) (k : Kind) → o ≡ Some k → IsSome o
some_if o k is = ap is_some is

-- where a change may be made, something stands
something : (change : DatumChange) (kinds : Kinds) → IsApplicable change kinds → (at : Address) × IsSome (kinds at)
something (Put d) kinds h = ([], h)
something (AddMember n d) kinds h = ([], some_if _ _ h)
something (AddElement i d) kinds h = ([], some_if _ _ h.0)
something (Rename from to) kinds h = ([], some_if _ _ h.0)
something (DropMember n) kinds h = (_, h)
something (DropElement i) kinds h = (_, h)

-- so the first step on the way there is
pub first_there : (change : DatumChange) (d : Datum) (s : Step) (p : Address) → IsApplicable change (λ at. kind_at d (s ∷ (p ++ at))) → IsSome (kind_at d (s ∷ []))
first_there change d s p h = let w = something change _ h in step_there d s (p ++ w.0) w.1
