-- What the making of edits passes, and where it stops, as facts of the text before the edits and of all its data.
use Rattle.std.proofs.Common.{◌≡◌, ℕ, List, take, Some, None, slice_get, sym, subst}
use Rattle.std.proofs.Math.Path.{fun_ext}
use Rattle.toml_text.specs.Forms.{IsNewline}
use Rattle.toml_text.specs.Source.{text_of}
use Rattle.toml_tree.specs.Profiles.{IsOfProfile}
use Rattle.toml_tree.specs.Spells.{Spells}
use Rattle.toml_tree.specs.Tree.{Doc}
use Rattle.toml_tree.specs.declared.profile.Profile.{Profile}
use Rattle.toml_tree.proofs.Proved.{one_tree}
use Rattle.toml_names.specs.mentions.Mentions.{named}
use Rattle.toml_names.specs.model.Data.{IsDataOf, Kinds}
use Rattle.toml_names.specs.model.Documents.{IsDocumentIn}
use Rattle.toml_names.specs.model.Hidden.{Cover, beside, near}
use Rattle.toml_names.specs.reader.Names.{AreGood}
use Rattle.toml_names.proofs.Proved.{one_data}
use Rattle.toml_edits.specs.Edits.{Change}
use Rattle.toml_edits.specs.After.{IsAfter}
use Rattle.toml_edits.specs.Faults.{IsFault}
use Rattle.toml_edits.specs.Lists.{Lead}
use Rattle.toml_edits.specs.Near.{AreNear}
use Rattle.toml_edits.proofs.Proved.{leads_beside, one_lead}
use Rattle.toml_editor.specs.declared.fault.EditorFault.{EditorFault}
use Rattle.toml_editor.specs.declared.fault.EditorFault.TheVariants as faults
use Rattle.toml_working.specs.declared.working.Tree.{Tree}
use Rattle.toml_editor.specs.CertifiedLists.{ArePlain}
use Rattle.toml_editor.specs.Edited.{MayBeRefused}
use Rattle.toml_editor.specs.Exact.{IsAt, IsNeitherAt, OfNumber, OfPlain, OfNoPlaceAt, PassesAll, PassesAt, Stops}
use Rattle.toml_layout.specs.declared.layout.Layout.{Layout}
use Rattle.toml_working.specs.Manners.{Manner, manner_of, style_of}
use Rattle.toml_working.specs.Putting.{manner}
use Rattle.toml_editor.specs.PlainTexts.{AfterPlain, IsPlainOrHeld, IsRefusedIn, IsNeitherPlainNorHeld, NoneIsRefused}
use Rattle.toml_working.specs.Standing.{Read, standing}
use Rattle.toml_working.specs.Stands.{Stands}
use Rattle.toml_working.specs.Starting.{NoneIsGone}
use Rattle.toml_editor.specs.Steps.{AreWritten, IsGoodText}
use Rattle.toml_editor.proofs.NearFaults.{near_front, near_one, refused_near}
use Rattle.toml_editor.proofs.written.Elsewhere.{style_is_newline}
use Rattle.toml_editor.proofs.written.ScalarsLone.{may_be_refused}
use Rattle.toml_editor.proofs.written.Steps.{plain_steps}

module _ (profile : Profile) (read : Read) (d : Doc) (before : List ℕ) (tree : Tree) (document : IsDocumentIn profile before)
    (spelled : Spells d before) (stands : Stands before read tree.slots.items (standing d.lines)) (texts : text_of tree.texts.source ≡ before)
    (whole : NoneIsGone tree.elements) (layout : Layout) (mannered : manner tree ≡ manner_of layout d.lines) where
  abbrev same : document.1 ≡ d
  same = one_tree document.1 d before document.2 spelled

  abbrev good_at : (old : Kinds) → IsDataOf (named d.lines) old → IsGoodText profile before old
  good_at old facts = record {
    tree = d;
    spelled = (spelled, subst (IsOfProfile profile) same document.4);
    good = subst (λ (e : Doc). AreGood e.lines) same document.3;
    facts = facts;
  }

  newline : IsNewline (style_of d.lines)
  newline = style_is_newline d.lines spelled.lines.forms

  -- at first the tree stands for the text
  abbrev at : (old : Kinds) → IsDataOf (named d.lines) old → IsAt profile read tree before old
  at old facts = record {
    good = good_at old facts;
    stands = subst (λ t. Stands t read tree.slots.items (standing d.lines)) (sym texts) stands;
    whole = whole;
    newline = subst (λ (m : Manner). IsNewline m.newline) (sym mannered) newline;
  }

  -- what is so of the texts for which the tree stands is so of the text
  after_plain : (cs : List Change) (k : ℕ) (P : Change → List ℕ → Kinds → Type 0) → OfPlain profile read cs tree k P
      → (c : Change) → slice_get cs k ≡ Some c → (old mid now : Kinds) → IsDataOf (named d.lines) old
      → Lead profile (take k cs) old mid → IsFault profile c mid None → IsAfter profile c mid now
      → ArePlain profile (take k cs) (manner_of layout d.lines) before
      → (between : List ℕ) → AreWritten profile (take k cs) (manner_of layout d.lines) before between → P c between mid
  after_plain cs k P holds c is old mid now facts lead none is_after plain between written =
      holds c is before old mid now (at old facts) lead none is_after
      (subst (λ s. ArePlain profile (take k cs) s before) (sym mannered) plain) between
      (subst (λ s. AreWritten profile (take k cs) s before between) (sym mannered) written)

  -- ---- an edit that is neither plain nor held

  pub neither_edit : (cs : List Change) (j : ℕ) → IsNeitherAt profile read cs j tree
      → IsNeitherPlainNorHeld layout profile before cs j
  neither_edit cs j not = (
    d,
    spelled,
    (λ c is old mid now facts lead none is_after plain between written.
        after_plain cs j (λ c text kinds. ¬ IsPlainOrHeld profile text c) not c is old mid now facts lead none is_after plain between written),
  )

  pub neither_edit_of : (cs : List Change) (fault : EditorFault) → OfNoPlaceAt (λ j. IsNeitherAt profile read cs j tree) fault
      → OfNoPlaceAt (IsNeitherPlainNorHeld layout profile before cs) fault
  neither_edit_of cs (faults.Spread j) not = neither_edit cs j not
  neither_edit_of cs (faults.LastElement j) not = neither_edit cs j not
  neither_edit_of cs (faults.Text f) not = tt
  neither_edit_of cs (faults.Syntax f) not = tt
  neither_edit_of cs (faults.Names f) not = tt
  neither_edit_of cs (faults.Edit i f) not = tt
  neither_edit_of cs faults.TooLong not = tt
  neither_edit_of cs (faults.Unverified r) not = tt
  neither_edit_of cs faults.NoMemory not = tt

  -- ---- edits that are not refused

  module _ (hidden : Cover) (cs : List Change) (are : AreNear hidden cs) (old : Kinds) (facts : IsDataOf (named d.lines) old) (part : Kinds)
      (of : (a : _) → part a ≡ near hidden old a) where
    passes_text : (k : ℕ) → PassesAt profile read cs part tree k → AfterPlain layout profile before cs d k (λ c text. ¬ IsRefusedIn profile text c)
    passes_text k (near_k, led, holds) c is other mid now other_facts lead none is_after plain between written refused =
        let same_old : other ≡ old = fun_ext (one_data (named d.lines) other old other_facts facts) in
        let all = leads_beside profile hidden (take k cs) old part near_k (near_front hidden k cs are) of led in
        let mid_is : mid ≡ beside hidden old near_k =
        fun_ext (one_lead profile (take k cs) old mid (beside hidden old near_k) (subst (λ o. Lead profile (take k cs) o mid) same_old lead) all) in
        let good = plain_steps profile (take k cs) (manner_of layout d.lines) before between other mid newline (good_at other other_facts) lead written in
        after_plain cs k (λ e text kinds. MayBeRefused e near_k → ¬ IsRefusedIn profile text e) holds c is other mid now other_facts lead none is_after plain
        between written
        (refused_near hidden old c near_k (near_one hidden k cs c is are) (subst (MayBeRefused c) mid_is (may_be_refused profile between mid c good.0 none refused)))
        refused

    pub none_is_refused : (n : ℕ) → PassesAll profile read cs part n tree → NoneIsRefused layout profile before cs n
    none_is_refused n passes = (d, spelled, (λ k low. passes_text k (passes k low)))

    pub none_is_refused_of : (fault : EditorFault) → OfNumber (λ n. PassesAll profile read cs part n tree) fault → OfNumber (NoneIsRefused layout profile before cs) fault
    none_is_refused_of (faults.Edit n f) passes = none_is_refused n passes
    none_is_refused_of (faults.Spread n) passes = none_is_refused n passes
    none_is_refused_of (faults.LastElement n) passes = none_is_refused n passes
    none_is_refused_of (faults.Text f) passes = tt
    none_is_refused_of (faults.Syntax f) passes = tt
    none_is_refused_of (faults.Names f) passes = tt
    none_is_refused_of faults.TooLong passes = tt
    none_is_refused_of (faults.Unverified r) passes = tt
    none_is_refused_of faults.NoMemory passes = tt

    -- both, of the fault with which the edits end
    pub stops_told : (fault : EditorFault) → Stops profile read cs part tree fault
        → OfNumber (NoneIsRefused layout profile before cs) fault × OfNoPlaceAt (IsNeitherPlainNorHeld layout profile before cs) fault
    stops_told fault stops = (none_is_refused_of fault stops.passed, neither_edit_of cs fault stops.neither)
