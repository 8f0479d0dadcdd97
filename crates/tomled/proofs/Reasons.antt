-- What is pushed behind a text, piece by piece.
use Rattle.std.proofs.Common.{◌≡◌, ℕ, List, [], ◌∷◌, ◌++◌, ap, ◌∙◌, append_assoc}
use Rattle.tomled.specs.Finishing.{HasReason}

pub reason_is : (text word reason one two three : List ℕ) → one ≡ text ++ word → two ≡ one ++ (0x3A ∷ 0x20 ∷ []) → three ≡ two ++ reason → HasReason text word three
reason_is text word reason one two three p q r = (
  reason,
  r ∙ (ap (λ l. l ++ reason) (q ∙ ap (λ l. l ++ (0x3A ∷ 0x20 ∷ [])) p)
      ∙ (append_assoc (text ++ word) (0x3A ∷ 0x20 ∷ []) reason ∙ append_assoc text word (0x3A ∷ 0x20 ∷ reason))),
)
