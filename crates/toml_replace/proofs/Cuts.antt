-- What was planned goes well up to a call that fails.
use Rattle.std.proofs.Common.{◌≡◌, ℕ, Bool, true, false, List, [], ◌∷◌, ◌++◌, Ok, Err, inl, inr, refl, sym, ap, ◌∙◌, subst, append_assoc}
use Rattle.std.specs.Prelude.{Option, Result, ◌⊎◌}
use Rattle.std.specs.declared.io.Error.{Error}
use Rattle.toml_replace.specs.Calls.{Call}
use Rattle.toml_replace.specs.Replacement.{IsCutShort, IsRefusal}

pub refusal : (same : Result Bool Error) (e : Error) → (same ≡ Err e) ⊎ (same ≡ Ok true) → IsRefusal same
refusal same e (inl is) = subst IsRefusal (sym is) tt
refusal same e (inr is) = subst IsRefusal (sym is) tt

-- more was planned behind it
pub cut_before : (plan more calls : List Call) → IsCutShort plan calls → IsCutShort (plan ++ more) calls
cut_before plan more calls cut = record {
  done = cut.done;
  next = cut.next;
  left = cut.left ++ more;
  failed = cut.failed;
  order = ap (λ l. l ++ more) cut.order ∙ append_assoc cut.done (cut.next ∷ cut.left) more;
  asked = cut.asked;
  stopped = cut.stopped;
  are = cut.are;
}

-- all before it went well
pub cut_behind : (front plan calls : List Call) → IsCutShort plan calls → IsCutShort (front ++ plan) (front ++ calls)
cut_behind front plan calls cut = record {
  done = front ++ cut.done;
  next = cut.next;
  left = cut.left;
  failed = cut.failed;
  order = ap (λ l. front ++ l) cut.order ∙ sym (append_assoc front cut.done (cut.next ∷ cut.left));
  asked = cut.asked;
  stopped = cut.stopped;
  are = ap (λ l. front ++ l) cut.are ∙ sym (append_assoc front cut.done (cut.failed ∷ []));
}
