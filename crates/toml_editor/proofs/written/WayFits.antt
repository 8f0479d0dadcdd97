-- When the pairs of a way fit, and that nothing is added unasked on it.
use Rattle.std.proofs.Common.{◌≡◌, ◌⊎◌, inl, inr, ◌<◌, ◌+◌, ℕ, zero, suc, Bool, true, false, cond, Option, Some, None, option_map, List, [], ◌∷◌, map, length, refl, sym, ap, ◌∙◌, subst, arith}
use Rattle.std.specs.Prelude.{slice_get, count_by, take}
use Rattle.std.proofs.lemmas.List.{length-map}
use Rattle.std.proofs.lemmas.List.Sums.{sum_by-cons}
use Rattle.std.proofs.lemmas.Option.{slice_get-map, slice_get_within}
use Rattle.toml_tree.specs.Tree.{Doc, Line}
use Rattle.toml_edits.specs.Edits.{Change}
use Rattle.toml_units.specs.declared.unit.UnitKind.{UnitKind}
use Rattle.toml_units.specs.declared.unit.UnitKind.TheVariants as kinds
use Rattle.toml_units.specs.Places.{is_line}
use Rattle.toml_units.specs.Units.{TextUnit, units}
use Rattle.toml_checker.specs.CarriedTo.{IsCarriedTo, At}
use Rattle.toml_checker.specs.Comments.{is_comment, IsWritten}
use Rattle.toml_checker.specs.Lines.{NoLinesAdded, IsEmptyEnd}
use Rattle.toml_checker.specs.Owed.{IsOwed}
use Rattle.toml_checker.specs.Pairs.{line_number, KeepsNewline, StandsAs, AllFit, PairsFit, IsSecond}
use Rattle.toml_checker.specs.Plain.{Site, site, next_line}
use Rattle.toml_editor.proofs.written.Way.{Step, both, old, new, olds, news, Seen, seen, one_line, is_here, pairs, rise, Stands, here, beyond}

abbrev pub seen_kind : Seen → UnitKind
seen_kind x = x.kind

abbrev pub unit_kind : TextUnit → UnitKind
unit_kind u = u.kind

-- the texts of the newlines
abbrev pub newlines : List Line → List (List ℕ)
newlines = map (λ l. l.newline.text)

module _ (cs : List Change) (written : List (List (List ℕ))) (before after : List (List ℕ)) where
  abbrev pub SameNewline : ℕ → ℕ → Type 0
  SameNewline a b = (slice_get before a ≡ slice_get after b) ⊎ (a + 1 ≡ length before) ⊎ (b + 1 ≡ length after)

  -- the second unit is the first, but for where the edits carry it; so many lines are before them
  pub record IsPartner (a b : ℕ) (u w : TextUnit) : Type 0 where
    pub text : w.piece.text ≡ u.piece.text
    pub address : IsCarriedTo cs u.address w.address
    pub newline : u.kind ≡ kinds.Line → SameNewline a b

  pub record Matches (line : Option Site) (a b : ℕ) (u w : TextUnit) : Type 0 where
    pub kind : w.kind ≡ u.kind
    pub kept : is_here cs line u ≡ true → IsPartner a b u w
    pub lost : is_here cs line u ≡ false → (w.kind ≡ kinds.Line → At w.address (IsOwed cs)) × (is_comment w.kind ≡ false)

  pub record IsAsked (b : ℕ) (w : TextUnit) : Type 0 where
    pub line : w.kind ≡ kinds.Line → At w.address (IsOwed cs) ⊎ ((b + 1 ≡ length after) × (w.piece.text ≡ []) × ¬ (cs ≡ []))
    pub comment : is_comment w.kind ≡ true → (w.kind ≡ kinds.InnerComment) × IsWritten cs written w

  abbrev pub Fits : Option Site → ℕ → ℕ → List Step → Type 0
  Fits line a b [] = Unit {0}
  Fits line a b (both u w ∷ s) = Matches line a b u w × Fits (next_line line (site u)) (a + one_line u.kind) (b + one_line w.kind) s
  Fits line a b (old u ∷ s) = (is_here cs line u ≡ false) × Fits (next_line line (site u)) (a + one_line u.kind) b s
  Fits line a b (new w ∷ s) = IsAsked b w × Fits line a (b + one_line w.kind) s

map_got : {A B : Type 0} (f : A → B) (xs : List A) (k : ℕ) (y : B) → slice_get (map f xs) k ≡ Some y → (x : A) × (slice_get xs k ≡ Some x) × (f x ≡ y)
map_got f [] k y is = cc
map_got f (x ∷ xs) zero y is = (x, refl, (let e : f x ≡ y = cc in e))
map_got f (x ∷ xs) (suc k) y is = map_got f xs k y is

count_map : (ws : List TextUnit) (k : ℕ) → count_by (λ x. is_line (seen_kind x)) (take k (map seen ws)) ≡ line_number ws k
count_map [] zero = refl
count_map [] (suc k) = refl
count_map (w ∷ ws) zero = refl
count_map (w ∷ ws) (suc k) =
    let more = count_map ws k in
    let first = sum_by-cons (λ (x : TextUnit). cond (is_line x.kind) 1 0) w (take k ws) in
    let second = sum_by-cons (λ x. cond (is_line (seen_kind x)) 1 0) (seen w) (take k (map seen ws)) in
    omega (arith, more, first, second)

module _ (cs : List Change) (written : List (List (List ℕ))) (d e : Doc) where
  abbrev us : List TextUnit
  us = units d.lines

  abbrev ws : List TextUnit
  ws = units e.lines

  abbrev Fit : Option Site → ℕ → ℕ → List Step → Type 0
  Fit = Fits cs written (newlines d.lines) (newlines e.lines)

  pub record Place (i k a b : ℕ) (s : List Step) : Type 0 where
    pub old : Stands unit_kind us i a (olds s)
    pub new : Stands seen_kind (map seen ws) k b (map seen (news s))

  on_both : (i k a b : ℕ) (u w : TextUnit) (s : List Step) → Place i k a b (both u w ∷ s) → Place (i + 1) (k + 1) (a + one_line u.kind) (b + one_line w.kind) s
  on_both i k a b u w s p = record { old = beyond unit_kind us i a u (olds s) p.old; new = beyond seen_kind (map seen ws) k b (seen w) (map seen (news s)) p.new }

  on_old : (i k a b : ℕ) (u : TextUnit) (s : List Step) → Place i k a b (old u ∷ s) → Place (i + 1) k (a + one_line u.kind) b s
  on_old i k a b u s p = record { old = beyond unit_kind us i a u (olds s) p.old; new = p.new }

  on_new : (i k a b : ℕ) (w : TextUnit) (s : List Step) → Place i k a b (new w ∷ s) → Place i (k + 1) a (b + one_line w.kind) s
  on_new i k a b w s p = record { old = p.old; new = beyond seen_kind (map seen ws) k b (seen w) (map seen (news s)) p.new }

  -- ---- the pairs fit

  newline_at : (lines : List Line) (n : ℕ) → slice_get (newlines lines) n ≡ option_map (λ (l : Line). l.newline.text) (slice_get lines n)
  newline_at lines n = slice_get-map (λ (l : Line). l.newline.text) lines n

  stands : (i k a b : ℕ) (u w : TextUnit) (s : List Step) → Place i k a b (both u w ∷ s) → w.kind ≡ u.kind → IsPartner cs written (newlines d.lines) (newlines e.lines) a b u w → StandsAs cs d e i k
  stands i k a b u w s p kind same =
      let got = map_got seen ws k (seen w) (here seen_kind (map seen ws) k b (seen w) (map seen (news s)) p.new) in
      let count : line_number us i ≡ a = p.old.lines in
      let other : line_number ws k ≡ b = sym (count_map ws k) ∙ p.new.lines in
      record {
        first = u;
        first_is = here unit_kind us i a u (olds s) p.old;
        second = got.0;
        second_is = got.1;
        kind = sym (ap seen_kind got.2 ∙ kind);
        text = sym (ap (λ (x : Seen). x.text) got.2 ∙ same.text);
        address = subst (IsCarriedTo cs u.address) (sym (ap (λ (x : Seen). x.address) got.2)) same.address;
        newline = λ line. by count other (same.newline line);
      }
    where
      by : line_number us i ≡ a → line_number ws k ≡ b → SameNewline cs written (newlines d.lines) (newlines e.lines) a b → KeepsNewline d e i k
      by count other (inl is) =
          inl (sym (newline_at d.lines (line_number us i)) ∙ ap (slice_get (newlines d.lines)) count ∙ is ∙ ap (slice_get (newlines e.lines)) (sym other) ∙ newline_at e.lines (line_number ws k))
      by count other (inr (inl is)) = inr (inl (ap (λ n. n + 1) count ∙ is ∙ length-map d.lines (λ (l : Line). l.newline.text)))
      by count other (inr (inr is)) = inr (inr (ap (λ n. n + 1) other ∙ is ∙ length-map e.lines (λ (l : Line). l.newline.text)))

  all_fit : (s : List Step) (line : Option Site) (i k a b : ℕ) → Place i k a b s → Fit line a b s → AllFit cs d e (pairs cs line i k s)
  all_fit [] line i k a b p fit = tt
  all_fit (both u w ∷ s) line i k a b p fit =
      by (is_here cs line u) refl (all_fit s (next_line line (site u)) (i + 1) (k + 1) (a + one_line u.kind) (b + one_line w.kind) (on_both i k a b u w s p) fit.1)
    where
      by : (t : Bool) → is_here cs line u ≡ t → AllFit cs d e (pairs cs (next_line line (site u)) (i + 1) (k + 1) s)
          → AllFit cs d e (cond t ((i, k) ∷ pairs cs (next_line line (site u)) (i + 1) (k + 1) s) (pairs cs (next_line line (site u)) (i + 1) (k + 1) s))
      by true is more = (stands i k a b u w s p fit.0.kind (fit.0.kept is), more)
      by false is more = more
  all_fit (old u ∷ s) line i k a b p fit = all_fit s (next_line line (site u)) (i + 1) k (a + one_line u.kind) b (on_old i k a b u s p) fit.1
  all_fit (new w ∷ s) line i k a b p fit = all_fit s line i (k + 1) a (b + one_line w.kind) (on_new i k a b w s p) fit.1

  pub pairs_fit : (s : List Step) → Place 0 0 0 0 s → Fit None 0 0 s → PairsFit cs d e (pairs cs None 0 0 s)
  pairs_fit s p fit = (rise cs s None 0 0, all_fit s None 0 0 0 0 p fit)

  -- ---- no line is added

  abbrev Asked : List (ℕ × ℕ) → ℕ → TextUnit → Type 0
  Asked ps k w = w.kind ≡ kinds.Line → IsSecond ps k ⊎ At w.address (IsOwed cs) ⊎ IsEmptyEnd cs e k w

  asked_more : (q : ℕ × ℕ) (ps : List (ℕ × ℕ)) (k : ℕ) (w : TextUnit) → Asked ps k w → Asked (q ∷ ps) k w
  asked_more q ps k w is line = elim (is line) [ inl second ↦ inl (inr second) | inr other ↦ inr other ]

  asked_here : (k b : ℕ) (x : TextUnit) (w : TextUnit) → line_number ws k ≡ b → seen x ≡ seen w
      → At w.address (IsOwed cs) ⊎ ((b + 1 ≡ length (newlines e.lines)) × (w.piece.text ≡ []) × ¬ (cs ≡ [])) → At x.address (IsOwed cs)
      ⊎ IsEmptyEnd cs e k x
  asked_here k b x w count same (inl owed) = inl (subst (λ a. At a (IsOwed cs)) (sym (ap (λ (y : Seen). y.address) same)) owed)
  asked_here k b x w count same (inr last) =
      inr (
        ap (λ n. n + 1) count ∙ last.0 ∙ length-map e.lines (λ (l : Line). l.newline.text),
        ap (λ (y : Seen). y.text) same
            ∙ last.1,
        last.2,
      )

  got_here : (k b : ℕ) (x w : TextUnit) (rest : List Seen) → Stands seen_kind (map seen ws) k b (seen w ∷ rest) → slice_get ws (k + 0) ≡ Some x → seen x ≡ seen w
  got_here k b x w rest p is =
      let got = map_got seen ws k (seen w) (here seen_kind (map seen ws) k b (seen w) rest p) in
      let same : ◌≡◌ {A = Option TextUnit} (Some got.0) (Some x) = sym got.1 ∙ ap (slice_get ws) (let e : k ≡ k + 0 = omega arith in e) ∙ is in
      let e : got.0 ≡ x = cc in
      ap seen (sym e) ∙ got.2

  lines_asked : (s : List Step) (line : Option Site) (i k a b : ℕ) → Place i k a b s → Fit line a b s → (m : ℕ) (x : TextUnit)
      → m < length (news s) → slice_get ws (k + m) ≡ Some x
      → Asked (pairs cs line i k s) (k + m) x
  lines_asked [] line i k a b p fit m x low is = let e : ⊥ = omega (arith, low) in absurd e
  lines_asked (both u w ∷ s) line i k a b p fit zero x low is = by (is_here cs line u) refl
    where
      same : seen x ≡ seen w
      same = got_here k b x w (map seen (news s)) p.new is

      by : (t : Bool) → is_here cs line u ≡ t → Asked (cond t ((i, k) ∷ pairs cs (next_line line (site u)) (i + 1) (k + 1) s) (pairs cs (next_line line (site u)) (i + 1) (k + 1) s)) (k + zero) x
      by true is is_line = inl (inl (omega arith))
      by false is is_line =
          inr (inl (subst (λ a. At a (IsOwed cs)) (sym (ap (λ (y : Seen). y.address) same)) ((fit.0.lost is).0 (sym (ap seen_kind same) ∙ is_line))))
  lines_asked (both u w ∷ s) line i k a b p fit (suc m) x low is =
      by (is_here cs line u)
      (subst (λ n. Asked (pairs cs (next_line line (site u)) (i + 1) (k + 1) s) n x) (let e : (k + 1) + m ≡ k + suc m = omega arith in e)
      (lines_asked s (next_line line (site u)) (i + 1) (k + 1) (a + one_line u.kind) (b + one_line w.kind)
      (on_both i k a b u w s p) fit.1 m x (omega (arith, low))
      (ap (slice_get ws) (let e : (k + 1) + m ≡ k + suc m = omega arith in e) ∙ is)))
    where
      by : (t : Bool) → Asked (pairs cs (next_line line (site u)) (i + 1) (k + 1) s) (k + suc m) x
          → Asked (cond t ((i, k) ∷ pairs cs (next_line line (site u)) (i + 1) (k + 1) s) (pairs cs (next_line line (site u)) (i + 1) (k + 1) s)) (k + suc m) x
      by true more = asked_more (i, k) (pairs cs (next_line line (site u)) (i + 1) (k + 1) s) (k + suc m) x more
      by false more = more
  lines_asked (old u ∷ s) line i k a b p fit m x low is =
      lines_asked s (next_line line (site u)) (i + 1) k (a + one_line u.kind) b (on_old i k a b u s p) fit.1 m x low is
  lines_asked (new w ∷ s) line i k a b p fit zero x low is =
      let same = got_here k b x w (map seen (news s)) p.new is in
      let count : line_number ws (k + 0) ≡ b = ap (line_number ws) (let e : k + 0 ≡ k = omega arith in e) ∙ sym (count_map ws k) ∙ p.new.lines in
      λ is_line. inr (asked_here (k + 0) b x w count same (fit.0.line (sym (ap seen_kind same) ∙ is_line)))
  lines_asked (new w ∷ s) line i k a b p fit (suc m) x low is =
      subst (λ n. Asked (pairs cs line i (k + 1) s) n x) (let e : (k + 1) + m ≡ k + suc m = omega arith in e)
      (lines_asked s line i (k + 1) a (b + one_line w.kind) (on_new i k a b w s p) fit.1 m x (omega (arith, low))
      (ap (slice_get ws) (let e : (k + 1) + m ≡ k + suc m = omega arith in e) ∙ is))

  pub no_lines_added : (s : List Step) → Place 0 0 0 0 s → map seen ws ≡ map seen (news s) → Fit None 0 0 s
      → NoLinesAdded cs e (pairs cs None 0 0 s)
  no_lines_added s p is fit k w at line =
      let low : k < length (news s) = omega (arith, slice_get_within ws k w at, sym (length-map ws seen) ∙ ap length is ∙ length-map (news s) seen) in
      let zero_in : k ≡ 0 + k = omega arith in
      subst (λ n. IsSecond (pairs cs None 0 0 s) n ⊎ At w.address (IsOwed cs) ⊎ IsEmptyEnd cs e n w) (sym zero_in)
      (lines_asked s None 0 0 0 0 p fit k w low (ap (slice_get ws) (sym zero_in) ∙ at) line)
