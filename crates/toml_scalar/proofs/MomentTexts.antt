-- What the datum of a date or a time has: all is kept but the delimiter and the letter of an offset.
use Rattle.std.proofs.Common.{◌≡◌, ℕ, true, eqb, List, [], ◌∷◌, ◌++◌, map, refl, ap, ◌∙◌, arith, ⊎_elim, inl, inr}
use Rattle.std.proofs.lemmas.Bool.{eqb-true}
use Rattle.std.proofs.lemmas.Bool.Decides.{nat_tests}
use Rattle.std.proofs.lemmas.List.{map-append}
use Rattle.toml_text.specs.Bytes.{is_digit}
use Rattle.toml_text.specs.Forms.{Each}
use Rattle.toml_scalar.specs.Moments.{IsOffset, IsDelimiter, moment_byte}
use Rattle.toml_scalar.specs.MomentLaws.{zone_text, DateText, TimeText, LocalText, OffsetText}
use Rattle.toml_scalar.proofs.Dates.{PassesMost, date_each}
use Rattle.toml_scalar.proofs.Times.{time_each, numeric_each}

-- a byte that stands in the datum as in the spelling
digit_kept : (b : ℕ) → is_digit b ≡ true → eqb (moment_byte b) b ≡ true
digit_kept b h = grind (arith, nat_tests)

kept_passes : PassesMost (λ b. eqb (moment_byte b) b)
kept_passes = record { digit = digit_kept; dash = refl; colon = refl; point = refl; plus = refl }

kept : (bs : List ℕ) → Each (λ b. eqb (moment_byte b) b) bs → map moment_byte bs ≡ bs
kept [] h = refl
kept (b ∷ bs) h = ap (λ x. x ∷ map moment_byte bs) (eqb-true _ _ h.0) ∙ ap (λ xs. b ∷ xs) (kept bs h.1)

pub date_text : DateText
date_text bs is = kept bs (date_each (λ b. eqb (moment_byte b) b) kept_passes bs is)

pub time_text : TimeText
time_text bs is = kept bs (time_each (λ b. eqb (moment_byte b) b) kept_passes bs is)

delimiter_text : (t : ℕ) → IsDelimiter t → moment_byte t ≡ 0x54
delimiter_text t (inl e) = rw e refl
delimiter_text t (inr (inl e)) = rw e refl
delimiter_text t (inr (inr e)) = rw e refl

pub local_text : LocalText
local_text date t time is between clock =
    map-append moment_byte date (t ∷ time)
    ∙ ap (λ xs. xs ++ moment_byte t ∷ map moment_byte time) (date_text date is)
    ∙ ap (λ b. date ++ b ∷ map moment_byte time) (delimiter_text t between)
    ∙ ap (λ xs. date ++ 0x54 ∷ xs) (time_text time clock)

zone_kept : (offset : List ℕ) → IsOffset offset → map moment_byte offset ≡ zone_text offset
zone_kept (z ∷ []) h = ⊎_elim (λ (e : z ≡ 0x5A). rw e refl) (λ (e : z ≡ 0x7A). rw e refl) h
zone_kept (sign ∷ h1 ∷ h2 ∷ colon ∷ m1 ∷ m2 ∷ []) h =
    kept (sign ∷ h1 ∷ h2 ∷ colon ∷ m1 ∷ m2 ∷ []) (numeric_each (λ b. eqb (moment_byte b) b) kept_passes sign h1 h2 colon m1 m2 h)
zone_kept _ h = absurd h

pub offset_text : OffsetText
offset_text local offset is zone = map-append moment_byte local offset ∙ ap (λ xs. map moment_byte local ++ xs) (zone_kept offset zone)
