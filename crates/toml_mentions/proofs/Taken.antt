-- The lines of a text, taken in one after the other.
use Rattle.std.proofs.Common.{◌≡◌, ◌⊎◌, inl, inr, ◌<◌, ◌+◌, ℕ, List, [], ◌∷◌, ◌++◌, length, Option, Some, None, sym, ap, ◌∙◌, subst, arith}
use Rattle.std.proofs.lemmas.List.{length_push}
use Rattle.std.proofs.lemmas.Option.{none-some}
use Rattle.toml_text.specs.Limit.{IsText}
use Rattle.toml_tree.specs.HandedOut.{AreLinesIn, HandsOut, left as left_of, tree_of}
use Rattle.toml_tree.specs.Profiles.{SpelledByNone}
use Rattle.toml_tree.specs.Tree.{Line}
use Rattle.toml_tree.specs.declared.line_reader.LineReader.{LineReader}
use Rattle.toml_tree.specs.declared.profile.Profile.{Profile}
use Rattle.toml_names.specs.mentions.Mentions.{named, named_by, root}
use Rattle.toml_names.specs.model.Addresses.{Address}
use Rattle.toml_names.specs.reader.Texts.{AreLeft, more_left}
use Rattle.toml_mentions.specs.Sought.{AreSought, IsSeen, SeeksNext, SeeksOn, SoughtIn, Stands, TakesExpr, all_parts, most_lines, parts_by, sights}
use Rattle.toml_mentions.specs.declared.seeker.Seeker.{Seeker}
use Rattle.toml_mentions.proofs.Judged.{same_lines}
use Rattle.toml_mentions.proofs.Parted.{named_more, parts_more}
use Rattle.toml_mentions.proofs.Sights.{sights-append}

module _ (target : Address) (profile : Profile) (text : List ℕ) where
  -- one more
  pub sought_more : (front : List Line) (l : Line) (reader : LineReader) (more : Option LineReader) (old new : Seeker) → AreSought target profile text front (Some reader) old
      → AreLeft profile text (front ++ l ∷ []) more → TakesExpr old new l.expr → length front < most_lines → AreSought target profile text (front ++ l ∷ []) more new
  sought_more front l reader more old new so left takes few =
      let n = length front in
      let taken = takes (named front) n (0 + n) so.stands few in
      let names : named (front ++ l ∷ []) ≡ named front ++ named_by (named front) (0 + n) l.expr = named_more (root ∷ []) 0 front l in
      let long : length (front ++ l ∷ []) ≡ n + 1 = length_push front l in
      let parts : sights target (all_parts (front ++ l ∷ [])) ≡ sights target (all_parts front) ++ sights target (parts_by (named front) l.expr) =
      ap (sights target) (parts_more front l) ∙ sights-append target (all_parts front) (parts_by (named front) l.expr) in
      let seen = taken.seen (sights target (all_parts front)) so.seen in
      let here = subst (λ t. IsSeen new.firsts.items new.clash (sights target (all_parts front) ++ sights t (parts_by (named front) l.expr))) so.target_is seen in
      record {
        are = left;
        target_is = ap (λ t. t.now) taken.target ∙ so.target_is;
        stands = subst (λ m. Stands new (named (front ++ l ∷ [])) m) (sym long) (subst (λ ms. Stands new ms (n + 1)) (sym names) taken.stands);
        seen = subst (IsSeen new.firsts.items new.clash) (sym parts) here;
      }

  -- a text has few lines
  pub few_lines : IsText text → (front : List Line) (reader : LineReader) → HandsOut profile text front reader → length front < most_lines
  few_lines is front reader hands =
      let a = hands.few in
      let b = hands.within in
      let c = is.fits in
      omega (arith, a, b, c)

  abbrev pub Kept : Option LineReader → Seeker → Type 0
  Kept left s = ((front : List Line) × AreSought target profile text front left s) ⊎ ((left ≡ None) × SpelledByNone profile text)

  on_by : (front : List Line) (n : ℕ) (s : Seeker) (left : Option LineReader) → SeeksOn target profile text front n s left → Kept left s × (more_left left < n + 1)
  on_by front n s left (inl h) = (inl (front ++ h.0 ∷ [], h.1), h.2)
  on_by front n s left (inr h) =
      let none : more_left left ≡ 0 = ap more_left h.0 in
      (inr h, omega (arith, none))

  pub goes_on : IsText text → (left : Option LineReader) (reader : LineReader) → left ≡ Some reader → (old new : Seeker) (more : Option LineReader) → Kept left old → SeeksNext old reader new more
      → Kept more new × (more_left more < more_left left)
  goes_on is left reader there old new more (inl h) seeks =
      let so : AreSought target profile text h.0 (Some reader) old = subst (λ o. AreSought target profile text h.0 o old) there h.1 in
      let on = on_by h.0 (left_of reader) new more (seeks target profile text h.0 so (few_lines is h.0 reader so.are)) in
      (on.0, subst (λ o. more_left more < more_left o) (sym there) on.1)
  goes_on is left reader there old new more (inr h) seeks = absurd (none-some reader (sym h.0 ∙ there))

  -- all were taken in
  pub all_sought : (left : Option LineReader) (s : Seeker) → left ≡ None → Kept left s → SoughtIn target profile text s
  all_sought left s none (inl h) lines are =
      let all : AreLinesIn profile text h.0 = subst (AreLeft profile text h.0) none h.1.are in
      let same : h.0 ≡ lines = same_lines profile text h.0 lines all are in
      subst (λ ls. IsSeen s.firsts.items s.clash (sights target (all_parts ls))) same h.1.seen
  all_sought left s none (inr h) lines are = absurd (h.1 (tree_of text lines) are.spelled)
