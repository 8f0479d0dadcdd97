-- The texts of certificates.
use Rattle.std.proofs.Common.{◌≡◌, ℕ, ◌+◌, ◌<◌, List, [], ◌∷◌, ◌++◌, length, refl, sym, drop, get_or, ap, subst, ◌∙◌, arith, append_assoc, length-append}
use Rattle.std.proofs.lemmas.List.{append-nil, append_cancel_left, drop_more}
use Rattle.toml_units.specs.Certificates.{pair_text, pairs_text, first_line, certificate_of, AreSmall, BeginsWithNoPair, OneCertificate, IsCertificate}
use Rattle.toml_units.specs.Decimals.{number_text, BeginsWithNoDigit, BeginsWithNoNumber}
use Rattle.toml_units.proofs.Decimals.{one_number}

-- the line of a pair, and what follows
pub pair_line : (p : ℕ × ℕ) (r : List ℕ) → pair_text p ++ r ≡ number_text p.0 ++ (0x20 ∷ (number_text p.1 ++ (0x0A ∷ r)))
pair_line p r =
    append_assoc (number_text p.0) (0x20 ∷ (number_text p.1 ++ (0x0A ∷ []))) r
    ∙ ap (λ l. number_text p.0 ++ (0x20 ∷ l)) (append_assoc (number_text p.1) (0x0A ∷ []) r)

-- a text begins with one pair
pub one_pair : (p q : ℕ × ℕ) (r s : List ℕ) → pair_text p ++ r ≡ pair_text q ++ s → (p ≡ q) × (r ≡ s)
one_pair p q r s e =
    let first = one_number p.0 q.0 (0x20 ∷ (number_text p.1 ++ (0x0A ∷ r))) (0x20 ∷ (number_text q.1 ++ (0x0A ∷ s))) refl refl (sym (pair_line p r) ∙ e ∙ pair_line q s) in
    let behind : number_text p.1 ++ (0x0A ∷ r) ≡ number_text q.1 ++ (0x0A ∷ s) = cc in
    let second = one_number p.1 q.1 (0x0A ∷ r) (0x0A ∷ s) refl refl behind in
    let rest : r ≡ s = cc in
    ((λ i. (first.0 i, second.0 i)), rest)

pub pair_some : (p : ℕ × ℕ) (r : List ℕ) → 0 < length (pair_text p ++ r)
pair_some p r = omega (arith, ap length (pair_line p r), length-append (number_text p.0) (0x20 ∷ (number_text p.1 ++ (0x0A ∷ r))))

-- where pairs are the front of the text of others, they are the first of these
pub first_pairs : (ps qs : List (ℕ × ℕ)) (r : List ℕ) → pairs_text ps ++ r ≡ pairs_text qs → (rs : List (ℕ × ℕ)) × (qs ≡ ps ++ rs) × (r ≡ pairs_text rs)
first_pairs [] qs r e = (qs, refl, e)
first_pairs (p ∷ ps) [] r e = absurd (omega (arith, pair_some p (pairs_text ps ++ r), ap length (sym (append_assoc (pair_text p) (pairs_text ps) r) ∙ e)))
first_pairs (p ∷ ps) (q ∷ qs) r e =
    let one = one_pair p q (pairs_text ps ++ r) (pairs_text qs) (sym (append_assoc (pair_text p) (pairs_text ps) r) ∙ e) in
    let more = first_pairs ps qs r one.1 in
    (more.0, (λ i. sym one.0 i ∷ more.1 i), more.2)

no_pairs : (ps : List (ℕ × ℕ)) → [] ≡ pairs_text ps → ps ≡ []
no_pairs [] e = refl
no_pairs (p ∷ ps) e = absurd (omega (arith, pair_some p (pairs_text ps), ap length e))

pub one_certificate : OneCertificate
one_certificate ps qs e =
    let behind : pairs_text ps ++ [] ≡ pairs_text qs = append-nil (pairs_text ps) ∙ append_cancel_left first_line (pairs_text ps) (pairs_text qs) e in
    let more = first_pairs ps qs [] behind in
    sym (more.1 ∙ ap (λ rs. ps ++ rs) (no_pairs more.0 more.2) ∙ append-nil ps)

-- one more pair
pub pairs_push : (ps : List (ℕ × ℕ)) (p : ℕ × ℕ) (r : List ℕ) → pairs_text (ps ++ p ∷ []) ++ r ≡ pairs_text ps ++ (pair_text p ++ r)
pairs_push [] p r = ap (λ l. l ++ r) (append-nil (pair_text p))
pairs_push (q ∷ ps) p r = append_assoc (pair_text q) (pairs_text (ps ++ p ∷ [])) r ∙ ap (λ l. pair_text q ++ l) (pairs_push ps p r) ∙ sym (append_assoc (pair_text q) (pairs_text ps) (pair_text p ++ r))

small_behind : (ps qs : List (ℕ × ℕ)) → AreSmall (ps ++ qs) → AreSmall qs
small_behind [] qs h = h
small_behind (p ∷ ps) qs h = small_behind ps qs h.1

-- what is left behind some pairs, and begins with no pair, is no end of a certificate
pub none_left : (bytes left : List ℕ) (ps : List (ℕ × ℕ)) → bytes ≡ certificate_of ps ++ left → 0 < length left
    → BeginsWithNoPair left → (qs : List (ℕ × ℕ)) → ¬ IsCertificate bytes qs
none_left bytes left ps read some none qs (small, is) =
    let behind = append_cancel_left first_line (pairs_text ps ++ left) (pairs_text qs) (sym (append_assoc first_line (pairs_text ps) left) ∙ sym read ∙ is) in
    let more = first_pairs ps qs left behind in
    by more.0 more.2 (small_behind ps more.0 (subst AreSmall more.1 small))
  where
    by : (rs : List (ℕ × ℕ)) → left ≡ pairs_text rs → AreSmall rs → ⊥
    by [] e h = omega (arith, some, ap length e)
    by (r ∷ rs) e h = none r (pairs_text rs) h.0.0 h.0.1 e

-- why a pair is not there
module _ (bytes : List ℕ) (first : ℕ) (spaced : List ℕ) (read : bytes ≡ number_text first ++ spaced) (ends : BeginsWithNoDigit spaced) where
  behind_first : (p : ℕ × ℕ) (rest : List ℕ) → bytes ≡ pair_text p ++ rest → spaced ≡ 0x20 ∷ (number_text p.1 ++ (0x0A ∷ rest))
  behind_first p rest e = (one_number first p.0 spaced (0x20 ∷ (number_text p.1 ++ (0x0A ∷ rest))) ends refl (sym read ∙ e ∙ pair_line p rest)).1

  pub no_space : ((rest : List ℕ) → ¬ (spaced ≡ 0x20 ∷ rest)) → BeginsWithNoPair bytes
  no_space never p rest low high e = never (number_text p.1 ++ (0x0A ∷ rest)) (behind_first p rest e)

  module _ (numbered : List ℕ) (space : spaced ≡ 0x20 ∷ numbered) where
    behind_space : (p : ℕ × ℕ) (rest : List ℕ) → bytes ≡ pair_text p ++ rest → numbered ≡ number_text p.1 ++ (0x0A ∷ rest)
    behind_space p rest e =
        let all = sym space ∙ behind_first p rest e in
        cc

    pub no_second : BeginsWithNoNumber numbered → BeginsWithNoPair bytes
    no_second never p rest low high e = never p.1 (0x0A ∷ rest) high refl (behind_space p rest e)

    pub no_end : (second : ℕ) (ended : List ℕ) → numbered ≡ number_text second ++ ended → BeginsWithNoDigit ended → ((rest : List ℕ) → ¬ (ended ≡ 0x0A ∷ rest)) → BeginsWithNoPair bytes
    no_end second ended again closed never p rest low high e = never rest (one_number second p.1 ended (0x0A ∷ rest) closed refl (sym again ∙ behind_space p rest e)).1

-- one more line is written
pub wrote_line : (ps : List (ℕ × ℕ)) (i : ℕ) (d : ℕ × ℕ) (text line more start : List ℕ) → i < length ps → more ≡ text ++ line → line ≡ pair_text (get_or ps i d) → text ++ pairs_text (drop i ps) ≡ start → more ++ pairs_text (drop (i + 1) ps) ≡ start
wrote_line ps i d text line more start low is written so_far =
    ap (λ l. l ++ pairs_text (drop (i + 1) ps)) (is ∙ ap (λ l. text ++ l) written)
    ∙ append_assoc text (pair_text (get_or ps i d)) (pairs_text (drop (i + 1) ps))
    ∙ ap (λ l. text ++ pairs_text l) (sym (drop_more ps i d low))
    ∙ so_far

-- one more line is read
pub read_line : (bytes left behind : List ℕ) (ps qs : List (ℕ × ℕ)) (p : ℕ × ℕ) → bytes ≡ certificate_of ps ++ left → left ≡ pair_text p ++ behind → qs ≡ ps ++ p ∷ [] → bytes ≡ certificate_of qs ++ behind
read_line bytes left behind ps qs p read line more =
    read
    ∙ ap (λ l. first_line ++ (pairs_text ps ++ l)) line
    ∙ ap (λ l. first_line ++ l) (sym (pairs_push ps p behind))
    ∙ ap (λ l. first_line ++ (pairs_text l ++ behind)) (sym more)

-- one more line is written, piece by piece
pub pair_written : (one two text s t u v : List ℕ) → s ≡ text ++ one → t ≡ s ++ (0x20 ∷ []) → u ≡ t ++ two → v ≡ u ++ (0x0A ∷ [])
    → v ≡ text ++ (one ++ (0x20 ∷ (two ++ (0x0A ∷ []))))
pair_written one two text s t u v first space second end =
    end
    ∙ ap (λ l. l ++ (0x0A ∷ [])) (second ∙ ap (λ l. l ++ two) (space ∙ ap (λ l. l ++ (0x20 ∷ [])) first) ∙ append_assoc (text ++ one) (0x20 ∷ []) two)
    ∙ append_assoc (text ++ one) (0x20 ∷ two) (0x0A ∷ [])
    ∙ append_assoc text one (0x20 ∷ (two ++ (0x0A ∷ [])))
