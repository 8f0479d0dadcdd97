-- Behind plain edits the last one has one text, and so one answer.
use Rattle.std.proofs.Math.Path.{fun_ext}
use Rattle.std.proofs.Common.{◌≡◌, ◌∙◌, ◌⊎◌, ◌<◌, ◌≤◌, ◌^◌, Result, Ok, Err, length-append, inl, inr, ℕ, Bool, true, false, List, [], ◌∷◌, ◌++◌, length, take, Some, None, refl, sym, ap, subst, true≢false, arith}
use Rattle.std.proofs.lemmas.List.{take-append-le, take_all}
use Rattle.std.proofs.lemmas.Option.{slice_get_within}
use Rattle.std.specs.Prelude.{slice_get}
use Rattle.toml_tree.specs.Profiles.{SpellsIn}
use Rattle.toml_tree.specs.Tree.{Doc}
use Rattle.toml_tree.specs.declared.profile.Profile.{Profile}
use Rattle.toml_tree.proofs.Proved.{one_tree}
use Rattle.toml_names.specs.declared.model.address.Step.TheVariants.{Name}
use Rattle.toml_names.specs.model.Addresses.{Address, same_address}
use Rattle.toml_names.specs.model.Data.{Kinds}
use Rattle.toml_names.proofs.Proved.{same_address-decides}
use Rattle.toml_edits.specs.Edits.{Change}
use Rattle.toml_edits.specs.Faults.{IsFault}
use Rattle.toml_edits.specs.Laws.{HasRoom}
use Rattle.toml_edits.specs.Lists.{Lead}
use Rattle.toml_edits.specs.declared.fault.EditFault.{EditFault}
use Rattle.toml_edits.proofs.Proved.{one_lead}
use Rattle.toml_text.specs.Limit.{IsText, max_len}
use Rattle.toml_checker.specs.Documents.{AreDefined, OfData}
use Rattle.toml_checker.specs.Findings.{IsFirstUnmet}
use Rattle.toml_checker.specs.declared.verdict.Reason.{Reason}
use Rattle.toml_checker.proofs.Proved.{found_is_met, one_certificate, one_reason}
use Rattle.toml_layout.specs.declared.layout.Layout.{Layout}
use Rattle.toml_working.specs.Manners.{Manner, manner_of}
use Rattle.toml_working.specs.Standing.{Standing, standing}
use Rattle.toml_editor.specs.CertifiedLists.{ArePlain}
use Rattle.toml_editor.specs.EachEdit.{LastHasOneAnswer, LastHasOneText}
use Rattle.toml_editor.specs.Edited.{IsEditedWith, IsTextOf, MayBeSpread, OfDefined, OnDataSoFar, TakesLastElement, TellsWith}
use Rattle.toml_editor.specs.declared.fault.EditorFault.{EditorFault}
use Rattle.toml_editor.specs.declared.fault.EditorFault.TheVariants as faults
use Rattle.toml_editor.specs.EditedLines.{manner_after}
use Rattle.toml_editor.specs.LastTexts.{ChangesLines, IsOneChange, WritesLast, standing_text}
use Rattle.toml_editor.specs.PlainAnswers.{IsAnswer, IsFaultOrMemory, PlainSoFar, refusal}
use Rattle.toml_editor.specs.PlainTexts.{IsNeitherPlainNorHeld, IsPlainOn, IsRefusedIn, NoneIsRefused, WritesPlain}
use Rattle.toml_editor.specs.Steps.{AreWritten, IsPlain}
use Rattle.toml_editor.proofs.EachEdit.{each_edit_is_told}
use Rattle.toml_editor.proofs.OneChanged.{one_change}
use Rattle.toml_editor.proofs.MakesExact.{lead_parted}
use Rattle.toml_editor.proofs.PlainAnswers.{compare, edit_at, first_fault_is_answered, first_refused_is_answered, here, no_fault_before, not_refused_before, of_data, of_last, of_spread, of_tree, passed_all}
use Rattle.toml_editor.proofs.PlainRefused.{good, only_refused_is_told}
use Rattle.toml_editor.proofs.written.StandingOrder.{rules_order}
use Rattle.toml_editor.proofs.written.Steps.{one_list_written}

get_last : (front : List Change) (c : Change) → slice_get (front ++ c ∷ []) (length front) ≡ Some c
get_last [] c = refl
get_last (d ∷ front) c = get_last front c

take_front : (front : List Change) (c : Change) → take (length front) (front ++ c ∷ []) ≡ front
take_front front c = take-append-le (length front) front (c ∷ []) (omega arith) ∙ take_all (length front) front (omega arith)

-- edits that are plain, and one more that is plain on what they write
plain_joined : (profile : Profile) (cs : List Change) (c : Change) (manner : Manner) (text : List ℕ) → ArePlain profile cs manner text
    → ((between : List ℕ) → AreWritten profile cs manner text between → IsPlainOn profile between c) → ArePlain profile (cs ++ c ∷ []) manner text
plain_joined profile [] c manner text plain last = (last text refl, (λ between first. tt))
plain_joined profile (d ∷ cs) c manner text plain last = (
  plain.0,
  (λ mid first. plain_joined profile cs c (manner_after d manner first.0.lines) mid (plain.1 mid first) (λ between written. last between (mid, first, written))),
)

module _ (layout : Layout) (profile : Profile) (before : List ℕ) (front : List Change) (c : Change) (between : List ℕ) (mid : Kinds)
    (so_far : PlainSoFar layout profile before (front ++ c ∷ []) (length front) between mid) where
  abbrev cs : List Change
  cs = front ++ c ∷ []

  abbrev d : Doc
  d = so_far.document.1

  abbrev manner : Manner
  manner = manner_of layout d.lines

  abbrev e : Doc
  e = (good layout profile before cs (length front) between mid so_far).tree

  spells : SpellsIn profile e between
  spells = (good layout profile before cs (length front) between mid so_far).spelled

  front_plain : ArePlain profile front manner before
  front_plain = subst (λ es. ArePlain profile es manner before) (take_front front c) so_far.plain

  front_written : AreWritten profile front manner before between
  front_written = subst (λ es. AreWritten profile es manner before between) (take_front front c) so_far.written

  -- a plain one
  plain_text : IsPlain e.lines c → (text : List ℕ) → WritesPlain layout profile before cs text → AreWritten profile cs manner before text
  plain_text plain text writes =
      of_tree layout profile before cs (length front) between mid so_far
      (λ x. ArePlain profile cs (manner_of layout x.lines) before → AreWritten profile cs (manner_of layout x.lines) before text) writes
      (plain_joined profile front c manner before front_plain
      (λ here written f again.
      let text_is : between ≡ here = one_list_written profile front manner before between here front_written written in
      subst (λ (x : Doc). IsPlain x.lines c) (one_tree e f between spells.0 (subst (λ t. SpellsIn profile f t) (sym text_is) again).0) plain))

  -- one that makes a change
  abbrev Changes : List ℕ → Type 0
  Changes text = (now : List Standing) × ChangesLines layout profile c (standing e.lines) now × (text ≡ e.mark.text ++ standing_text now)

  changed_text : IsOneChange e.lines c → (text : List ℕ) → WritesLast layout profile before cs text → Changes text
  changed_text one text writes =
      of_tree layout profile before cs (length front) between mid so_far
      (λ x. (fs : List Change) (b : Change) → cs ≡ fs ++ b ∷ [] → ArePlain profile fs (manner_of layout x.lines) before
      → (here : List ℕ) → AreWritten profile fs (manner_of layout x.lines) before here → (f : Doc) → SpellsIn profile f here → IsOneChange f.lines b
      → (now : List Standing) × ChangesLines layout profile b (standing f.lines) now × (text ≡ f.mark.text ++ standing_text now)) writes front c refl front_plain
      between front_written e spells one

  one_text : IsFault profile c mid None → ¬ IsRefusedIn profile between c → (one two : List ℕ) → IsTextOf layout profile before cs one
      → IsTextOf layout profile before cs two → one ≡ two
  one_text none unrefused one two first second =
      elim (each_edit_is_told profile c between mid (good layout profile before cs (length front) between mid so_far) none) [
        | inl plain ↦ one_list_written profile cs manner before one two (plain_text plain one first.plain) (plain_text plain two second.plain)
        | inr (inl change) ↦
            let (here, makes, is) = changed_text change one first.last in
            let (there, makes_too, is_too) = changed_text change two second.last in
            is
            ∙ ap (λ ts. e.mark.text ++ standing_text ts)
            (one_change layout profile c (standing e.lines) here there
            (rules_order e.lines (good layout profile before cs (length front) between mid so_far).good.0) makes makes_too)
            ∙ sym is_too
        | inr (inr refused) ↦ absurd (unrefused refused)
      ]

  -- ---- answers

  abbrev Answer : Type 0
  Answer = Result (List ℕ × List (ℕ × ℕ)) EditorFault

  -- all other answers are this fault
  abbrev IsOnly : EditorFault → Type 0
  IsOnly fault = (b : Answer) → IsAnswer layout profile before cs b → ¬ (b ≡ Err faults.NoMemory) → b ≡ Err fault

  -- or a text was made
  data Made (a : Answer) : Type 0 where
    Edited : (text : List ℕ) → (ps : List (ℕ × ℕ)) → IsEditedWith layout profile before cs text ps → a ≡ Ok (text, ps) → Made a
    Long : (text : List ℕ) → IsTextOf layout profile before cs text → max_len < length text → a ≡ Err faults.TooLong → Made a
    Unmet : (text : List ℕ) → (r : Reason) → IsTextOf layout profile before cs text → IsText text → IsFirstUnmet profile before cs text r
        → a ≡ Err (faults.Unverified r) → Made a

  abbrev IsDefined : Type 0
  IsDefined = OfData before (AreDefined profile cs) × NoneIsRefused layout profile before cs (length cs)

  abbrev Outcome : Answer → Type 0
  Outcome a = ((fault : EditorFault) × (a ≡ Err fault) × IsOnly fault) ⊎ (IsDefined × Made a)

  is_last : slice_get cs (length front) ≡ Some c
  is_last = get_last front c

  -- what is told of an edit is told of the last one
  at_last : (j : ℕ) (d : Change) → slice_get cs j ≡ Some d → ¬ (length front < j)
  at_last j d is high =
      let low = slice_get_within cs j d is in
      let long = length-append front (c ∷ []) in
      omega (arith, low, long, high)

  not_memory : (fault : EditorFault) (b : Answer) → IsFaultOrMemory fault b → ¬ (b ≡ Err faults.NoMemory) → b ≡ Err fault
  not_memory fault b (inl is) no_memory = is
  not_memory fault b (inr memory) no_memory = absurd (no_memory memory)

  faulty : (j : ℕ) (f : EditFault) → OnDataSoFar profile before cs j (λ x kinds. IsFault profile x kinds (Some f)) → (j ≡ length front) × IsOnly (faults.Edit (length front) f)
  faulty j f on = by (compare j (length front))
    where
      P : Change → Kinds → Type 0
      P x kinds = IsFault profile x kinds (Some f)

      by : (j < length front) ⊎ (j ≡ length front) ⊎ (length front < j) → (j ≡ length front) × IsOnly (faults.Edit (length front) f)
      by (inl low) =
          absurd (no_fault_before layout profile before cs (length front) between mid so_far j P (λ x kinds h. (f, h)) low on)
      by (inr (inl same)) =
          let h = here layout profile before cs (length front) between mid so_far c is_last P (subst (λ k. OnDataSoFar profile before cs k P) same on) in
          (same, λ b told no_memory. not_memory _ b (first_fault_is_answered layout profile before cs (length front) between mid so_far c is_last f h b told) no_memory)
      by (inr (inr high)) = let (x, x_is) = edit_at profile before cs j P on in absurd (at_last j x x_is high)

  -- a refusal is of the last one, and of no other
  refused : HasRoom c mid → (P : Change → Kinds → Type 0) (say : ℕ → EditorFault) → ((n : ℕ) (kinds : Kinds) (x : Change) → P x kinds → say n ≡ refusal n x)
      → (j : ℕ) → TellsWith layout profile before cs (say j) → OnDataSoFar profile before cs j (OfDefined profile P)
      → IsNeitherPlainNorHeld layout profile before cs j → (fault : EditorFault) × (say j ≡ fault) × IsOnly fault
  refused room P say is_refusal j told on neither = by (compare j (length front))
    where
      by : (j < length front) ⊎ (j ≡ length front) ⊎ (length front < j) → (fault : EditorFault) × (say j ≡ fault) × IsOnly fault
      by (inl low) =
          let (x, x_is) = edit_at profile before cs j (OfDefined profile P) on in
          absurd (not_refused_before layout profile before cs (length front) between mid so_far j x x_is low neither)
      by (inr (inl same)) =
          let holds = here layout profile before cs (length front) between mid so_far c is_last (OfDefined profile P)
          (subst (λ k. OnDataSoFar profile before cs k (OfDefined profile P)) same on) in
          let says : say j ≡ refusal (length front) c = ap say same ∙ is_refusal (length front) mid c holds.1 in
          let refuses = only_refused_is_told layout profile before cs (length front) between mid so_far c is_last room
          (subst (TellsWith layout profile before cs) says told) in (
            refusal (length front) c,
            says,
            λ b answers no_memory. not_memory _ b
                (first_refused_is_answered layout profile before cs (length front) between mid so_far c is_last holds.0 refuses b answers) no_memory,
          )
      by (inr (inr high)) = let (x, x_is) = edit_at profile before cs j (OfDefined profile P) on in absurd (at_last j x x_is high)

  outcome : HasRoom c mid → (a : Answer) → IsAnswer layout profile before cs a → ¬ (a ≡ Err faults.NoMemory) → Outcome a
  outcome room (Ok (text, ps)) told no_memory = inr ((told.certified.defined, told.passed), Edited text ps told refl)
  outcome room (Err (faults.Text f)) told no_memory = absurd (told.0 so_far.document)
  outcome room (Err (faults.Syntax f)) told no_memory = absurd (told.0 so_far.document)
  outcome room (Err (faults.Names f)) told no_memory = absurd (told.0 so_far.document)
  outcome room (Err (faults.Edit j f)) told no_memory =
      let (same, only) = faulty j f told.1 in inl (faults.Edit (length front) f, ap (λ k. Err (faults.Edit k f)) same, only)
  outcome room (Err (faults.Spread j)) told no_memory =
      let (fault, is, only) = refused room MayBeSpread faults.Spread of_spread j told told.1 told.2 in inl (fault, ap Err is, only)
  outcome room (Err (faults.LastElement j)) told no_memory =
      let (fault, is, only) = refused room TakesLastElement faults.LastElement of_last j told told.1 told.2 in inl (fault, ap Err is, only)
  outcome room (Err faults.TooLong) (defined, (text, of_text, long), passed) no_memory = inr ((defined.1, passed), Long text of_text long refl)
  outcome room (Err (faults.Unverified r)) (defined, not_plain, passed, (text, within, of_text, unmet)) no_memory =
      inr ((defined.1, passed), Unmet text r of_text within unmet refl)
  outcome room (Err faults.NoMemory) told no_memory = absurd (no_memory refl)

  -- where all edits are defined and none is refused, the last one is so
  none_of : OfData before (AreDefined profile cs) → IsFault profile c mid None
  none_of defined =
      let (new, lead) = of_data layout profile before cs (length front) between mid so_far (AreDefined profile cs) defined in
      let (there, led, none, is_after) = lead_parted profile front c so_far.old new lead in
      subst (λ k. IsFault profile c k None)
      (fun_ext (one_lead profile front so_far.old there mid led (subst (λ es. Lead profile es so_far.old mid) (take_front front c) so_far.lead))) none

  unrefused_of : IsDefined → ¬ IsRefusedIn profile between c
  unrefused_of (defined, passed) refuses =
      passed_all layout profile before cs (length front) between mid so_far c is_last (none_of defined) refuses defined passed

  abbrev text_of_made : (a : Answer) → Made a → (text : List ℕ) × IsTextOf layout profile before cs text
  text_of_made a (Edited text ps edited is) = (text, record { plain = edited.plain; last = edited.last })
  text_of_made a (Long text of_text long is) = (text, of_text)
  text_of_made a (Unmet text r of_text within unmet is) = (text, of_text)

  made_alike : length cs < 2 ^ 63 → (a b : Answer) → (m : Made a) → (k : Made b) → (text_of_made a m).0 ≡ (text_of_made b k).0 → a ≡ b
  made_alike few a b (Edited text ps edited is) (Edited twin qs again too) same =
      let moved = subst (λ t. IsEditedWith layout profile before cs t qs) (sym same) again in
      let pairs = one_certificate profile before text cs ps qs few edited.outer again.outer edited.certified moved.certified in
      is ∙ ap (λ t. Ok (t, ps)) same ∙ ap (λ xs. Ok (twin, xs)) pairs ∙ sym too
  made_alike few a b (Edited text ps edited is) (Long twin of_text long too) same =
      let fits : length text ≤ max_len = edited.certified.new.0.fits in
      let long_is = ap length same in
      absurd (omega (arith, fits, long, long_is))
  made_alike few a b (Edited text ps edited is) (Unmet twin r of_text within unmet too) same =
      absurd (found_is_met profile before text cs ps r (record { certified = edited.certified; outermost = edited.outer })
      (subst (λ t. IsFirstUnmet profile before cs t r) (sym same) unmet))
  made_alike few a b (Long text of_text long is) (Edited twin qs again too) same =
      let fits : length twin ≤ max_len = again.certified.new.0.fits in
      let long_is = ap length same in
      absurd (omega (arith, fits, long, long_is))
  made_alike few a b (Long text of_text long is) (Long twin of_twin longer too) same = is ∙ sym too
  made_alike few a b (Long text of_text long is) (Unmet twin r of_twin within unmet too) same =
      let fits : length twin ≤ max_len = within.fits in
      let long_is = ap length same in
      absurd (omega (arith, fits, long, long_is))
  made_alike few a b (Unmet text r of_text within unmet is) (Edited twin qs again too) same =
      absurd (found_is_met profile before twin cs qs r (record { certified = again.certified; outermost = again.outer })
      (subst (λ t. IsFirstUnmet profile before cs t r) same unmet))
  made_alike few a b (Unmet text r of_text within unmet is) (Long twin of_twin long too) same =
      let fits : length text ≤ max_len = within.fits in
      let long_is = ap length same in
      absurd (omega (arith, fits, long, long_is))
  made_alike few a b (Unmet text r of_text within unmet is) (Unmet twin s of_twin also unmet_too too) same =
      let reasons = one_reason profile before twin cs r s (subst (λ t. IsFirstUnmet profile before cs t r) same unmet) unmet_too in
      is ∙ ap (λ x. Err (faults.Unverified x)) reasons ∙ sym too

  one_answer : HasRoom c mid → length cs < 2 ^ 63 → (one two : Answer) → IsAnswer layout profile before cs one → IsAnswer layout profile before cs two
      → ¬ (one ≡ Err faults.NoMemory) → ¬ (two ≡ Err faults.NoMemory) → one ≡ two
  one_answer room few one two first second no_memory has_memory = by (outcome room one first no_memory) (outcome room two second has_memory)
    where
      by : Outcome one → Outcome two → one ≡ two
      by (inl (fault, is, only)) other = is ∙ sym (only two second has_memory)
      by (inr made) (inl (fault, is, only)) = only one first no_memory ∙ sym is
      by (inr (defined, made)) (inr (also, again)) =
          made_alike few one two made again
          (one_text (none_of defined.0) (unrefused_of defined) _ _ (text_of_made one made).1 (text_of_made two again).1)

pub last_has_one_text : LastHasOneText
last_has_one_text layout profile before front c between mid so_far none unrefused one two first second =
    one_text layout profile before front c between mid so_far none unrefused one two first second

pub last_has_one_answer : LastHasOneAnswer
last_has_one_answer layout profile before front c between mid so_far room few one two first second no_memory has_memory =
    one_answer layout profile before front c between mid so_far room few one two first second no_memory has_memory
