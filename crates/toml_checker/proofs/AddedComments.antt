-- When no comment is added unasked, as the code asks it.
use Rattle.std.proofs.Common.{◌≡◌, ℕ, ◌+◌, ◌<◌, ◌≤◌, ◌↔◌, inl, inr, Bool, List, [], ◌∷◌, length, map, get_or, refl, sym, ap, subst, ◌∙◌, arith, zero-add}
use Rattle.std.specs.List.{flat_map}
use Rattle.std.proofs.lemmas.List.{length-map}
use Rattle.toml_tree.specs.Spells.{EachIs, Spells}
use Rattle.toml_tree.specs.Tree.{Doc}
use Rattle.toml_edits.specs.Edits.{Change}
use Rattle.toml_units.specs.declared.unit.UnitKind.TheVariants as kinds
use Rattle.toml_units.specs.Plain.{Spanned, spanned}
use Rattle.toml_units.specs.Texts.{ReadsIn}
use Rattle.toml_units.specs.Units.{TextUnit, units}
use Rattle.toml_units.proofs.Proved.{units_read_the_text}
use Rattle.toml_checker.specs.declared.written.Written.{Written}
use Rattle.toml_checker.specs.Comments.{texts, IsWritten, IsCovered, AreNewComments, NoCommentsAdded, times}
use Rattle.toml_checker.specs.Counts.{Text, plain, seen}
use Rattle.toml_checker.specs.Marks.{IsSet, IsHeld, stops}
use Rattle.toml_checker.specs.Pairs.{IsSecond}
use Rattle.toml_checker.specs.UnmarkedComments.{text_at, unmarked}
use Rattle.toml_checker.specs.WrittenComments.{AreWrittenBy, AnyWrites, IsAllowed}
use Rattle.toml_checker.proofs.Held.{lies, ends_within, order_of}
use Rattle.toml_checker.proofs.NewComments.{news, images, each_new, read_at, all_read, new_from}
use Rattle.toml_checker.proofs.Times.{seen_is}
use Rattle.toml_checker.proofs.WrittenTexts.{lists, written_once, written_are, is_written, writes_it, flat_lists}

-- counted as the code does
pub counts_are : (t : List ℕ) (xs ys : List Text) (as_used as_allowed : List (List ℕ)) → plain xs ≡ as_used → plain ys ≡ as_allowed → (seen t xs ≤ seen t ys) ↔ (times t as_used ≤ times t as_allowed)
counts_are t xs ys a b e f =
    let x : seen t xs ≡ times t a = seen_is t xs ∙ ap (times t) e in
    let y : seen t ys ≡ times t b = seen_is t ys ∙ ap (times t) f in
    ((λ h. omega arith), (λ h. omega arith))

abbrev pub Asked : List Change → List Written → TextUnit → Type 0
Asked cs ws w = (w.kind ≡ kinds.InnerComment) × IsWritten cs (lists ws) w

module _ (cs : List Change) (ws : List Written) (written : AreWrittenBy cs ws) (text : List ℕ) where
  asked : (us : List TextUnit) → EachIs (ReadsIn text) us → EachIs (IsAllowed ws text) (map spanned us) → EachIs (Asked cs ws) us
  asked [] reads h = tt
  asked (u ∷ us) reads h = (
    (h.0.0, is_written cs ws written u (subst (AnyWrites ws u.address) (read_at text u reads.0) h.0.1)),
    asked us reads.1 h.1,
  )

  allowed : (us : List TextUnit) → EachIs (ReadsIn text) us → EachIs (Asked cs ws) us → EachIs (IsAllowed ws text) (map spanned us)
  allowed [] reads h = tt
  allowed (u ∷ us) reads h = (
    (h.0.0, subst (AnyWrites ws u.address) (sym (read_at text u reads.0)) (writes_it cs ws written u h.0.1)),
    allowed us reads.1 h.1,
  )

module _ (cs : List Change) (e : Doc) (text : List ℕ) (ps : List (ℕ × ℕ)) (spells : Spells e text) (ss : List Spanned) (is : ss ≡ map spanned (units e.lines)) (n : ℕ) (long : length ss ≡ n)
    (paired : List Bool) (pairs : (k : ℕ) → k < n → IsSet paired k ↔ IsSecond ps k)
    (covers : List Bool) (covered : (k : ℕ) → k < n → IsSet covers k ↔ IsHeld (stops ss) paired k) (so_many : length covers ≡ n)
    (ws : List Written) (written : AreWrittenBy cs ws)
    (found : List Spanned) (found_is : found ≡ unmarked covers ss) where
  abbrev us : List TextUnit
  us = units e.lines

  abbrev new : List TextUnit
  new = news covers us

  count : length us ≡ n
  count = sym (length-map us spanned) ∙ sym (ap length is) ∙ long

  these : found ≡ map spanned new
  these = found_is ∙ ap (unmarked covers) is ∙ images covers us

  reads : EachIs (ReadsIn text) new
  reads = each_new (ReadsIn text) covers us (units_read_the_text e text spells)

  read : map (text_at text) found ≡ texts new
  read = ap (map (text_at text)) these ∙ all_read text new reads

  in_cover : (k : ℕ) → k < n → IsHeld (stops ss) paired k → IsCovered ps us k
  in_cover k low (inl p) = inl ((pairs k low).0 p)
  in_cover k low (inr (j, before, p, le)) =
      inr (j, lies us (order_of e text spells) j k before (omega (arith, count)) (subst (λ xs. get_or (stops xs) k 0 ≤ get_or (stops xs) j 0) is le), (pairs j (omega arith)).0 p)

  held : (k : ℕ) → k < n → IsCovered ps us k → IsHeld (stops ss) paired k
  held k low (inl p) = inl ((pairs k low).1 p)
  held k low (inr (j, inside, p)) =
      let before = inside.later in
      inr (j, before, (pairs j (omega (arith, before))).1 p, subst (λ xs. get_or (stops xs) k 0 ≤ get_or (stops xs) j 0) (sym is) (ends_within us (order_of e text spells) j k inside))

  marked : (j : ℕ) → j < length us → IsSet covers j ↔ IsCovered ps us (0 + j)
  marked j h =
      let low : j < n = omega (arith, count) in
      subst (λ k. IsSet covers j ↔ IsCovered ps us k) (sym (zero-add j)) ((λ s. in_cover j low ((covered j low).0 s)), (λ c. (covered j low).1 (held j low c)))

  these_are : (xs : List TextUnit) → AreNewComments ps us xs ↔ (xs ≡ new)
  these_are = new_from ps us us covers 0 (so_many ∙ sym count) marked

  abbrev pub AreOnce : Type 0
  AreOnce = (t : List ℕ) → times t (map (text_at text) found) ≤ times t (flat_map (λ (w : Written). plain w.texts.items) ws)

  pub none_added : EachIs (IsAllowed ws text) found → AreOnce → NoCommentsAdded cs e ps
  none_added ask once = record {
    written = lists ws;
    written_are = written_are cs ws written;
    new = new;
    new_are = (these_are new).1 refl;
    asked = asked cs ws written text new reads (subst (EachIs (IsAllowed ws text)) these ask);
    once = λ t. let a = ap (times t) read in let b = ap (times t) (flat_lists ws) in let h = once t in omega (arith, a, b, h);
  }

  pub all_asked : NoCommentsAdded cs e ps → EachIs (IsAllowed ws text) found
  all_asked r =
      let same = written_once cs r.written (lists ws) r.written_are (written_are cs ws written) in
      let mine = (these_are r.new).0 r.new_are in
      let ask = subst (λ xs. EachIs (λ w. (w.kind ≡ kinds.InnerComment) × IsWritten cs xs w) r.new) same r.asked in
      subst (EachIs (IsAllowed ws text)) (sym these) (allowed cs ws written text new reads (subst (EachIs (Asked cs ws)) mine ask))

  pub all_once : NoCommentsAdded cs e ps → AreOnce
  all_once r t =
      let same = written_once cs r.written (lists ws) r.written_are (written_are cs ws written) in
      let mine = (these_are r.new).0 r.new_are in
      let a = ap (times t) read in
      let b = ap (times t) (flat_lists ws) in
      let d = ap (λ xs. times t (texts xs)) mine in
      let f = ap (λ xs. times t (flat_map (λ (ts : List (List ℕ)). ts) xs)) same in
      let h = r.once t in
      omega (arith, a, b, d, f, h)
