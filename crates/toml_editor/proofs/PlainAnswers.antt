-- What the editor answers where the first edits of a list are plain.
use Rattle.std.proofs.Common.{◌≡◌, ◌⊎◌, inl, inr, ◌<◌, ◌≤◌, ℕ, zero, suc, List, [], ◌∷◌, length, take, Some, None, refl, sym, ap, subst, ◌∙◌, arith, subst₂}
use Rattle.std.proofs.Math.Path.{fun_ext}
use Rattle.std.specs.Prelude.{Result, Ok, Err, slice_get}
use Rattle.std.proofs.lemmas.List.{take_all}
use Rattle.std.proofs.lemmas.Option.{same_Some, slice_get_within}
use Rattle.toml_text.specs.Limit.{max_len}
use Rattle.toml_tree.specs.Spells.{Spells}
use Rattle.toml_tree.specs.Tree.{Doc}
use Rattle.toml_tree.specs.declared.profile.Profile.{Profile}
use Rattle.toml_tree.proofs.Proved.{one_tree}
use Rattle.toml_names.specs.mentions.Mentions.{named}
use Rattle.toml_names.specs.model.Data.{IsDataOf, Kinds}
use Rattle.toml_names.proofs.Proved.{one_data}
use Rattle.toml_edits.specs.declared.fault.EditFault.{EditFault}
use Rattle.toml_edits.specs.After.{IsAfter}
use Rattle.toml_edits.specs.Edits.{Change}
use Rattle.toml_edits.specs.Edits as edits
use Rattle.toml_edits.specs.Faults.{IsFault}
use Rattle.toml_edits.specs.Lists.{Lead, IsFirstFault}
use Rattle.toml_edits.proofs.Proved.{fault_or_lead, one_first_fault, one_lead}
use Rattle.toml_checker.specs.Documents.{OfTree, OfData, AreDefined}
use Rattle.toml_editor.specs.CertifiedLists.{ArePlain}
use Rattle.toml_editor.specs.Edited.{MayBeSpread, OfDefined, OnDataSoFar, SoFar, TellsWith, TakesLastElement}
use Rattle.toml_editor.specs.PlainAnswers.{FirstFaultIsAnswered, FirstRefusedIsAnswered, IsAnswer, IsFaultOrMemory, LongIsAnswered, PlainIsAnswered, PlainSoFar, refusal}
use Rattle.toml_editor.specs.PlainTexts.{AfterPlain, IsPlainOrHeld, IsNoPlainList, IsPlainOn, IsNeitherPlainNorHeld, IsRefusedIn, NoneIsRefused, WritesPlain}
use Rattle.toml_editor.specs.Steps.{AreWritten}
use Rattle.toml_layout.specs.declared.layout.Layout.{Layout}
use Rattle.toml_editor.specs.declared.fault.EditorFault.{EditorFault}
use Rattle.toml_editor.specs.declared.fault.EditorFault.TheVariants as faults
use Rattle.toml_editor.proofs.written.WayComments.{le_or}
use Rattle.toml_editor.proofs.written.Steps.{one_list_written, one_written}
use Rattle.toml_working.specs.Manners.{Manner, manner_of}
use Rattle.toml_editor.specs.EditedLines.{manner_after}

pub compare : (a b : ℕ) → (a < b) ⊎ (a ≡ b) ⊎ (b < a)
compare a b = elim (le_or a b) [
  | inr high ↦ inr (inr high)
  | inl low ↦ elim (le_or b a) [
    | inl same ↦ inr (inl (omega (arith, low, same)))
    | inr less ↦ inl less
  ]
]

-- ---- lists, edit by edit

module _ (profile : Profile) where
  -- the fault of an edit behind those that lead to its data is the first
  first_of : (cs : List Change) (n : ℕ) (old mid : Kinds) (c : Change) (fault : EditFault) → Lead profile (take n cs) old mid → slice_get cs n ≡ Some c
      → IsFault profile c mid (Some fault) → IsFirstFault profile cs old n fault
  first_of [] n old mid c fault lead is h = cc
  first_of (x ∷ cs) zero old mid c fault lead is h =
      subst (λ k. IsFault profile x k (Some fault)) (sym (fun_ext lead)) (subst (λ y. IsFault profile y mid (Some fault)) (sym (same_Some x c is)) h)
  first_of (x ∷ cs) (suc n) old mid c fault (none, next, is_after, rest) is h = (none, next, is_after, first_of cs n next mid c fault rest is h)

  in_front : (cs : List Change) (n j : ℕ) (old : Kinds) (fault : EditFault) → IsFirstFault profile cs old n fault → n < j
      → IsFirstFault profile (take j cs) old n fault
  in_front [] n j old fault first low = absurd first
  in_front (x ∷ cs) n zero old fault first low = absurd (omega (arith, low))
  in_front (x ∷ cs) zero (suc j) old fault first low = first
  in_front (x ∷ cs) (suc n) (suc j) old fault (none, next, is_after, first) low = (none, next, is_after, in_front cs n j next fault first (omega (arith, low)))

  -- no edit has a fault before one to which they lead
  no_fault : (cs : List Change) (n j : ℕ) (old now mid : Kinds) (c : Change) (fault : EditFault) → Lead profile (take n cs) old now → j < n
      → Lead profile (take j cs) old mid → slice_get cs j ≡ Some c → IsFault profile c mid (Some fault) → ⊥
  no_fault cs n j old now mid c fault lead low before is h =
      fault_or_lead profile (take n cs) old now j fault (in_front cs j n old fault (first_of cs j old mid c fault before is h) low) lead

  -- the data at an edit, and those that it makes
  pub record DefinedAt (cs : List Change) (j : ℕ) (old : Kinds) (c : Change) : Type 0 where
    pub mid : Kinds
    pub next : Kinds
    pub lead : Lead profile (take j cs) old mid
    pub none : IsFault profile c mid None
    pub is_after : IsAfter profile c mid next

  defined_at : (cs : List Change) (n j : ℕ) (old now : Kinds) (c : Change) → Lead profile (take n cs) old now → j < n → slice_get cs j ≡ Some c
      → DefinedAt cs j old c
  defined_at [] n j old now c lead low is = cc
  defined_at (x ∷ cs) zero j old now c lead low is = absurd (omega (arith, low))
  defined_at (x ∷ cs) (suc n) zero old now c (none, next, is_after, rest) low is =
      subst (DefinedAt (x ∷ cs) zero old) (same_Some x c is) (record { mid = old; next = next; lead = (λ a. refl); none = none; is_after = is_after })
  defined_at (x ∷ cs) (suc n) (suc j) old now c (none, next, is_after, rest) low is =
      let at = defined_at cs n j next now c rest (omega (arith, low)) is in
      record { mid = at.mid; next = at.next; lead = (none, next, is_after, at.lead); none = at.none; is_after = at.is_after }

  -- the text at an edit, on which it is plain
  pub record PlainAt (cs : List Change) (j : ℕ) (manner : Manner) (before : List ℕ) (c : Change) : Type 0 where
    pub between : List ℕ
    pub written : AreWritten profile (take j cs) manner before between
    pub plain : ArePlain profile (take j cs) manner before
    pub here : IsPlainOn profile between c

  plain_at : (cs : List Change) (n j : ℕ) (manner : Manner) (before after : List ℕ) (c : Change) → ArePlain profile (take n cs) manner before
      → AreWritten profile (take n cs) manner before after → j < n → slice_get cs j ≡ Some c → PlainAt cs j manner before c
  plain_at [] n j manner before after c plain written low is = cc
  plain_at (x ∷ cs) zero j manner before after c plain written low is = absurd (omega (arith, low))
  plain_at (x ∷ cs) (suc n) zero manner before after c (one, rest) written low is =
      subst (PlainAt (x ∷ cs) zero manner before) (same_Some x c is) (record { between = before; written = refl; plain = tt; here = one })
  plain_at (x ∷ cs) (suc n) (suc j) manner before after c (one, rest) (mid, first, others) low is =
      let at = plain_at cs n j (manner_after x manner first.0.lines) mid after c (rest mid first) others (omega (arith, low)) is in
      record {
        between = at.between;
        written = (mid, first, at.written);
        plain = (
          one,
          (λ m w. subst₂ (λ (d : Doc) t. ArePlain profile (take j cs) (manner_after x manner d.lines) t) (one_tree first.0 w.0 before first.1.0 w.1.0)
              (one_written profile x manner before mid m first w) at.plain),
        );
        here = at.here;
      }

-- ---- where so many edits are plain

module _ (layout : Layout) (profile : Profile) (before : List ℕ) (cs : List Change) (n : ℕ) (after : List ℕ) (now : Kinds) (so_far : PlainSoFar layout profile before cs n after now) where
  abbrev d : Doc
  d = so_far.document.1

  abbrev spelled : Spells d before
  spelled = so_far.document.2

  abbrev manner : Manner
  manner = manner_of layout d.lines

  pub of_tree : (P : Doc → Type 0) → OfTree before P → P d
  of_tree P (e, e_spelled, holds) = subst P (one_tree e d before e_spelled spelled) holds

  pub of_data : (P : Kinds → Type 0) → OfData before P → P so_far.old
  of_data P (e, e_spelled, kinds, facts, holds) =
      subst P (fun_ext (one_data (named d.lines) kinds so_far.old
      (subst (λ (x : Doc). IsDataOf (named x.lines) kinds) (one_tree e d before e_spelled spelled) facts) so_far.facts)) holds

  -- an edit before that has no fault, is not refused, and is plain
  pub no_fault_before : (j : ℕ) (P : Change → Kinds → Type 0) → ((c : Change) (kinds : Kinds) → P c kinds → (fault : EditFault) × IsFault profile c kinds (Some fault))
      → j < n → OnDataSoFar profile before cs j P → ⊥
  no_fault_before j P faulty low on =
      let (mid, lead, c, is, holds) = of_data (λ old. SoFar profile cs old j P) on in
      let (fault, h) = faulty c mid holds in
      no_fault profile cs n j so_far.old now mid c fault so_far.lead low lead is h

  pub not_refused_before : (j : ℕ) (c : Change) → slice_get cs j ≡ Some c → j < n → IsNeitherPlainNorHeld layout profile before cs j → ⊥
  not_refused_before j c is low neither =
      let at = defined_at profile cs n j so_far.old now c so_far.lead low is in
      let text = plain_at profile cs n j manner before after c so_far.plain so_far.written low is in
      of_tree (λ x. AfterPlain layout profile before cs x j (λ c text. ¬ IsPlainOrHeld profile text c)) neither c is so_far.old at.mid at.next so_far.facts at.lead at.none
      at.is_after text.plain text.between text.written (λ e spells. inl (text.here e spells))

-- what stands of an edit of a list
pub edit_at : (profile : Profile) (before : List ℕ) (cs : List Change) (j : ℕ) (P : Change → Kinds → Type 0) → OnDataSoFar profile before cs j P
    → (c : Change) × (slice_get cs j ≡ Some c)
edit_at profile before cs j P (e, e_spelled, kinds, facts, so) = (so.2, so.3)

-- ---- all edits are plain

module _ (layout : Layout) (profile : Profile) (before : List ℕ) (cs : List Change) (after : List ℕ) (now : Kinds) (so_far : PlainSoFar layout profile before cs (length cs) after now) where
  abbrev tree : Doc
  tree = so_far.document.1

  whole : take (length cs) cs ≡ cs
  whole = take_all (length cs) cs (omega arith)

  all_plain : ArePlain profile cs (manner_of layout tree.lines) before
  all_plain = subst (λ ds. ArePlain profile ds (manner_of layout tree.lines) before) whole so_far.plain

  all_written : AreWritten profile cs (manner_of layout tree.lines) before after
  all_written = subst (λ ds. AreWritten profile ds (manner_of layout tree.lines) before after) whole so_far.written

  all_lead : Lead profile cs so_far.old now
  all_lead = subst (λ ds. Lead profile ds so_far.old now) whole so_far.lead

  -- the text that is written of plain edits is this one
  is_text : (text : List ℕ) → WritesPlain layout profile before cs text → text ≡ after
  is_text text writes =
      one_list_written profile cs (manner_of layout tree.lines) before text after
      (of_tree layout profile before cs (length cs) after now so_far
      (λ x. ArePlain profile cs (manner_of layout x.lines) before → AreWritten profile cs (manner_of layout x.lines) before text) writes all_plain) all_written

  no_list : IsNoPlainList layout profile before cs → ⊥
  no_list not_plain =
      of_tree layout profile before cs (length cs) after now so_far
      (λ x. (old new : Kinds) → IsDataOf (named x.lines) old → Lead profile cs old new → ¬ ArePlain profile cs (manner_of layout x.lines) before) not_plain
      so_far.old now so_far.facts all_lead all_plain

  low : (j : ℕ) (c : Change) → slice_get cs j ≡ Some c → j < length cs
  low j c is = slice_get_within cs j c is

  -- no fault but of memory, and of a text that is too long
  only : (fault : EditorFault) → TellsWith layout profile before cs fault → (fault ≡ faults.NoMemory) ⊎ ((fault ≡ faults.TooLong) × (max_len < length after))
  only (faults.Text f) told = absurd (told.0 so_far.document)
  only (faults.Syntax f) told = absurd (told.0 so_far.document)
  only (faults.Names f) told = absurd (told.0 so_far.document)
  only (faults.Edit j f) told =
      let (c, is) = edit_at profile before cs j (λ c kinds. IsFault profile c kinds (Some f)) told.1 in
      absurd (no_fault_before layout profile before cs (length cs) after now so_far j (λ c kinds. IsFault profile c kinds (Some f)) (λ c kinds h. (f, h)) (low j c is) told.1)
  only (faults.Spread j) told =
      let (c, is) = edit_at profile before cs j (OfDefined profile MayBeSpread) told.1 in
      absurd (not_refused_before layout profile before cs (length cs) after now so_far j c is (low j c is) told.2)
  only (faults.LastElement j) told =
      let (c, is) = edit_at profile before cs j (OfDefined profile TakesLastElement) told.1 in
      absurd (not_refused_before layout profile before cs (length cs) after now so_far j c is (low j c is) told.2)
  only faults.TooLong told =
      let (text, writes, long) = told.1 in
      inr (refl, subst (λ t. max_len < length t) (is_text text writes.plain) long)
  only (faults.Unverified r) told = absurd (no_list told.1)
  only faults.NoMemory told = inl refl

pub plain_is_answered : PlainIsAnswered
plain_is_answered layout profile before cs after now so_far short (Ok (text, pairs)) is =
    inl (pairs, ap (λ t. Ok (t, pairs)) (is_text layout profile before cs after now so_far text is.plain))
plain_is_answered layout profile before cs after now so_far short (Err fault) is =
    elim (only layout profile before cs after now so_far fault is) [
      | inl memory ↦ inr (ap Err memory)
      | inr long ↦ absurd (omega (arith, short, long.1))
    ]

pub long_is_answered : LongIsAnswered
long_is_answered layout profile before cs after now so_far long (Ok (text, pairs)) is =
    let fits : length text ≤ max_len = is.certified.new.0.fits in
    let same = ap length (is_text layout profile before cs after now so_far text is.plain) in
    absurd (omega (arith, long, fits, same))
long_is_answered layout profile before cs after now so_far long (Err fault) is =
    elim (only layout profile before cs after now so_far fault is) [
      | inl memory ↦ inr (ap Err memory)
      | inr too_long ↦ inl (ap Err too_long.0)
    ]

-- what has no one place is refused with 307, what takes a last element with 308
pub of_spread : (n : ℕ) (kinds : Kinds) (c : Change) → MayBeSpread c kinds → faults.Spread n ≡ refusal n c
of_spread n kinds (edits.set p text) may = refl
of_spread n kinds (edits.insert p text) may = refl
of_spread n kinds (edits.rename p to) may = refl
of_spread n kinds (edits.remove p) may = absurd may
of_spread n kinds (edits.new_section p) may = refl
of_spread n kinds (edits.new_element p) may = refl

pub of_last : (n : ℕ) (kinds : Kinds) (c : Change) → TakesLastElement c kinds → faults.LastElement n ≡ refusal n c
of_last n kinds (edits.set p text) takes = absurd takes
of_last n kinds (edits.insert p text) takes = absurd takes
of_last n kinds (edits.rename p to) takes = absurd takes
of_last n kinds (edits.remove p) takes = refl
of_last n kinds (edits.new_section p) takes = absurd takes
of_last n kinds (edits.new_element p) takes = absurd takes

-- ---- the edit behind is not

module _ (layout : Layout) (profile : Profile) (before : List ℕ) (cs : List Change) (n : ℕ) (between : List ℕ) (mid : Kinds) (so_far : PlainSoFar layout profile before cs n between mid)
    (c : Change) (is : slice_get cs n ≡ Some c) where
  abbrev old : Kinds
  old = so_far.old

  -- edits that are all defined have no fault
  not_defined : (fault : EditFault) → IsFault profile c mid (Some fault) → OfData before (AreDefined profile cs) → ⊥
  not_defined fault h defined =
      let (new, lead) = of_data layout profile before cs n between mid so_far (AreDefined profile cs) defined in
      fault_or_lead profile cs old new n fault (first_of profile cs n old mid c fault so_far.lead is h) lead

  -- a fault that is told of one edit is that of this one
  same_fault : (fault : EditFault) → IsFault profile c mid (Some fault) → (j : ℕ) (other : EditFault)
      → OnDataSoFar profile before cs j (λ x kinds. IsFault profile x kinds (Some other)) → (n ≡ j) × (fault ≡ other)
  same_fault fault h j other on =
      let (there, lead, x, x_is, f) = of_data layout profile before cs n between mid so_far (λ k. SoFar profile cs k j (λ x kinds. IsFault profile x kinds (Some other))) on in
      one_first_fault profile cs old n j fault other (first_of profile cs n old mid c fault so_far.lead is h) (first_of profile cs j old there x other lead x_is f)

  -- what is so of this edit on the data so far
  pub here : (P : Change → Kinds → Type 0) → OnDataSoFar profile before cs n P → P c mid
  here P on =
      let (there, lead, x, x_is, holds) = of_data layout profile before cs n between mid so_far (λ k. SoFar profile cs k n P) on in
      subst (λ k. P c k) (fun_ext (one_lead profile (take n cs) old there mid lead so_far.lead))
      (subst (λ y. P y there) (same_Some x c (sym x_is ∙ is)) holds)

  -- where it has a fault, those before an edit that has none are before it
  is_before : (fault : EditFault) → IsFault profile c mid (Some fault) → (j : ℕ) (P : Change → Kinds → Type 0)
      → OnDataSoFar profile before cs j (OfDefined profile P) → j < n
  is_before fault h j P on = by (compare j n)
    where
      by : (j < n) ⊎ (j ≡ n) ⊎ (n < j) → j < n
      by (inl less) = less
      by (inr (inl same)) = absurd ((here (OfDefined profile P) (subst (λ k. OnDataSoFar profile before cs k (OfDefined profile P)) same on)).0 fault h.0)
      by (inr (inr high)) =
          let (there, lead, x, x_is, defined) = of_data layout profile before cs n between mid so_far (λ k. SoFar profile cs k j (OfDefined profile P)) on in
          absurd (no_fault profile cs j n old there mid c fault lead high so_far.lead is h)

  faulty_is_answered : (fault : EditFault) → IsFault profile c mid (Some fault) → (answer : Result (List ℕ × List (ℕ × ℕ)) EditorFault)
      → IsAnswer layout profile before cs answer → IsFaultOrMemory (faults.Edit n fault) answer
  faulty_is_answered fault h (Ok (text, pairs)) told = absurd (not_defined fault h told.certified.defined)
  faulty_is_answered fault h (Err (faults.Text f)) told = absurd (told.0 so_far.document)
  faulty_is_answered fault h (Err (faults.Syntax f)) told = absurd (told.0 so_far.document)
  faulty_is_answered fault h (Err (faults.Names f)) told = absurd (told.0 so_far.document)
  faulty_is_answered fault h (Err (faults.Edit j f)) told =
      let same = same_fault fault h j f told.1 in
      inl (sym (ap (λ k. Err (faults.Edit k fault)) same.0 ∙ ap (λ g. Err (faults.Edit j g)) same.1))
  faulty_is_answered fault h (Err (faults.Spread j)) told =
      let (x, x_is) = edit_at profile before cs j (OfDefined profile MayBeSpread) told.1 in
      absurd (not_refused_before layout profile before cs n between mid so_far j x x_is (is_before fault h j MayBeSpread told.1) told.2)
  faulty_is_answered fault h (Err (faults.LastElement j)) told =
      let (x, x_is) = edit_at profile before cs j (OfDefined profile TakesLastElement) told.1 in
      absurd (not_refused_before layout profile before cs n between mid so_far j x x_is (is_before fault h j TakesLastElement told.1) told.2)
  faulty_is_answered fault h (Err faults.TooLong) told = absurd (not_defined fault h told.0.1)
  faulty_is_answered fault h (Err (faults.Unverified r)) told = absurd (not_defined fault h told.0.1)
  faulty_is_answered fault h (Err faults.NoMemory) told = inr refl

  module _ (none : IsFault profile c mid None) (refused : IsRefusedIn profile between c) where
    -- where the edits up to a later one lead on, it is told that none is refused
    passed : (m : ℕ) (there : Kinds) → Lead profile (take m cs) old there → n < m → NoneIsRefused layout profile before cs m → ⊥
    passed m there lead less none_refused =
        let at = defined_at profile cs m n old there c lead less is in
        of_tree layout profile before cs n between mid so_far
        (λ x. (k : ℕ) → k < m → AfterPlain layout profile before cs x k (λ y text. ¬ IsRefusedIn profile text y)) none_refused n less c is old at.mid at.next so_far.facts
        at.lead at.none at.is_after so_far.plain between so_far.written refused

    pub passed_all : OfData before (AreDefined profile cs) → NoneIsRefused layout profile before cs (length cs) → ⊥
    passed_all defined =
        let (new, lead) = of_data layout profile before cs n between mid so_far (AreDefined profile cs) defined in
        passed (length cs) new (subst (λ ds. Lead profile ds old new) (sym (take_all (length cs) cs (omega arith))) lead) (slice_get_within cs n c is)

    passed_at : (j : ℕ) (P : Change → Kinds → Type 0) → OnDataSoFar profile before cs j P → n < j → NoneIsRefused layout profile before cs j → ⊥
    passed_at j P on =
        let (there, lead, x, x_is, holds) = of_data layout profile before cs n between mid so_far (λ k. SoFar profile cs k j P) on in
        passed j there lead

    -- a fault that says this of the data, and is a refusal of the edit that has it, is the one of this edit
    refused_alike : (P : Change → Kinds → Type 0) (say : ℕ → EditorFault) → ((x : Change) → P x mid → say n ≡ refusal n x) → (j : ℕ)
        → OnDataSoFar profile before cs j (OfDefined profile P) → IsNeitherPlainNorHeld layout profile before cs j → NoneIsRefused layout profile before cs j
        → IsFaultOrMemory (refusal n c) (Err (say j))
    refused_alike P say is_refusal j on neither unrefused = by (compare j n)
      where
        by : (j < n) ⊎ (j ≡ n) ⊎ (n < j) → IsFaultOrMemory (refusal n c) (Err (say j))
        by (inl low) =
            let (x, x_is) = edit_at profile before cs j (OfDefined profile P) on in
            absurd (not_refused_before layout profile before cs n between mid so_far j x x_is low neither)
        by (inr (inl same)) =
            let holds = here (OfDefined profile P) (subst (λ k. OnDataSoFar profile before cs k (OfDefined profile P)) same on) in
            inl (ap (λ k. Err (say k)) same ∙ ap Err (is_refusal c holds.1))
        by (inr (inr high)) = absurd (passed_at j (OfDefined profile P) on high unrefused)

    refused_is_answered : (answer : Result (List ℕ × List (ℕ × ℕ)) EditorFault) → IsAnswer layout profile before cs answer
        → IsFaultOrMemory (refusal n c) answer
    refused_is_answered (Ok (text, pairs)) told = absurd (passed_all told.certified.defined told.passed)
    refused_is_answered (Err (faults.Text f)) told = absurd (told.0 so_far.document)
    refused_is_answered (Err (faults.Syntax f)) told = absurd (told.0 so_far.document)
    refused_is_answered (Err (faults.Names f)) told = absurd (told.0 so_far.document)
    refused_is_answered (Err (faults.Edit j f)) told = by (compare j n)
      where
        P : Change → Kinds → Type 0
        P x kinds = IsFault profile x kinds (Some f)

        by : (j < n) ⊎ (j ≡ n) ⊎ (n < j) → IsFaultOrMemory (refusal n c) (Err (faults.Edit j f))
        by (inl low) = absurd (no_fault_before layout profile before cs n between mid so_far j (λ x kinds. IsFault profile x kinds (Some f)) (λ x kinds h. (f, h)) low told.1)
        by (inr (inl same)) =
            let h = here (λ x kinds. IsFault profile x kinds (Some f))
            (subst (λ k. OnDataSoFar profile before cs k (λ x kinds. IsFault profile x kinds (Some f))) same told.1) in
            absurd (none f h.0)
        by (inr (inr high)) = absurd (passed_at j (λ x kinds. IsFault profile x kinds (Some f)) told.1 high told.2)
    refused_is_answered (Err (faults.Spread j)) told = refused_alike MayBeSpread faults.Spread (of_spread n mid) j told.1 told.2 told.3
    refused_is_answered (Err (faults.LastElement j)) told = refused_alike TakesLastElement faults.LastElement (of_last n mid) j told.1 told.2 told.3
    refused_is_answered (Err faults.TooLong) told = absurd (passed_all told.0.1 told.2)
    refused_is_answered (Err (faults.Unverified r)) told = absurd (passed_all told.0.1 told.2)
    refused_is_answered (Err faults.NoMemory) told = inr refl

pub first_fault_is_answered : FirstFaultIsAnswered
first_fault_is_answered layout profile before cs n between mid so_far c is fault h = faulty_is_answered layout profile before cs n between mid so_far c is fault h

pub first_refused_is_answered : FirstRefusedIsAnswered
first_refused_is_answered layout profile before cs n between mid so_far c is none refused =
    refused_is_answered layout profile before cs n between mid so_far c is none refused
