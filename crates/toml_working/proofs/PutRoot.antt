-- A line that is put in at the root of the working tree.
use Rattle.std.proofs.Common.{◌≡◌, ◌∙◌, inl, inr, ℕ, ◌+◌, ◌^◌, ◌<◌, ◌≤◌, Bool, true, false, ◌&&◌, cond, List, [], ◌∷◌, ◌++◌, drop, length, map, Option, Some, None, refl, ap, ap₂, sym, subst, arith, append_assoc}
use Rattle.std.specs.declared.alloc.Global.{Global}
use Rattle.std.specs.declared.string.String.{String}
use Rattle.std.specs.Prelude.{is_some, string_bytes}
use Rattle.std.proofs.lemmas.Bool.{cases_lt}
use Rattle.std.proofs.lemmas.List.{append_cancel_right, drop-map, drop_all, length-map}
use Rattle.std.proofs.lemmas.Option.{slice_get_within}
use Rattle.toml_names.specs.mentions.Keys.{Key}
use Rattle.toml_names.specs.model.Addresses.{Address, below}
use Rattle.toml_scalar.specs.Spelling.{spelled}
use Rattle.toml_text.specs.Source.{text_of}
use Rattle.toml_tree.specs.Spells.{EachIs}
use Rattle.toml_layout.specs.declared.layout.Layout.TheVariants as layouts
use Rattle.toml_working.specs.declared.lines.Body.{Body}
use Rattle.toml_working.specs.declared.lines.Line.{Line}
use Rattle.toml_working.specs.declared.lines.Slot.{Slot}
use Rattle.toml_layout.specs.declared.looks.Equals.{Equals}
use Rattle.toml_layout.specs.declared.texts.Texts.{Texts}
use Rattle.toml_layout.specs.declared.tree.Assign.{Assign}
use Rattle.toml_layout.specs.declared.tree.Leaf.{Leaf}
use Rattle.toml_working.specs.declared.working.Position.{Position}
use Rattle.toml_working.specs.FirstKeys.{spacing_put}
use Rattle.toml_working.specs.InsertStanding.{RootIsFirst, goes_below, has_comment, has_pair, insert_behind, insert_first, is_bare, line_behind, line_put, new_outline, new_standing, new_standing_in, pair_or}
use Rattle.toml_working.specs.Looking.{BodyBegins, LaysOut}
use Rattle.toml_layout.specs.Looks.{around, begun_as}
use Rattle.toml_working.specs.Manners.{Manner}
use Rattle.toml_working.specs.OpeningComments.{IsComment, IsCommentsEnd}
use Rattle.toml_working.specs.OpeningLines.{HasOutline, alone}
use Rattle.toml_layout.specs.OpenOutlines.{assign, leaf_text}
use Rattle.toml_layout.specs.Outlines.{LineOutline, Pair, ValueOutline}
use Rattle.toml_working.specs.Placing.{IsLastPair, IsNoHeader, IsPair, is_header, lines_before, lines_from}
use Rattle.toml_layout.specs.NewKeys.{key_of}
use Rattle.toml_working.specs.Putting.{EndsBefore, InsertsFirst, InsertsLines, IsKeyIn, IsPairLine, PutsBehind, PutsSlots, ended_before, newline_behind}
use Rattle.toml_working.specs.Seeing.{line_at}
use Rattle.toml_layout.specs.Spacings.{Spacing, plain_spacing}
use Rattle.toml_working.specs.Standing.{Standing, Read, body_outline, line_standing, slots_standing}
use Rattle.toml_working.specs.Stands.{BodyKept, Stands}
use Rattle.toml_working.proofs.AtPlace.{slot_of}
use Rattle.toml_working.proofs.Commented.{found_below}
use Rattle.toml_working.proofs.Looked.{begun_new, body_begun, put_behind_no_header}
use Rattle.toml_working.proofs.Placed.{behind_line, split_at}

line_put_is : (q : Address) (spacing : Spacing) (key : Key) (v : ValueOutline) (manner : Manner) (s : Standing) (newline : List ℕ)
    → line_put q spacing key v manner s newline
    ≡ ended_before manner.newline s newline ∷ new_standing_in q spacing key v (newline_behind manner.newline newline) ∷ []
line_put_is q spacing key v manner s [] = refl
line_put_is q spacing key v manner s (x ∷ xs) = refl

slot_there : (read : Read) (old : List Slot) (at : Position) (s : Standing) → line_at read old at ≡ Some s → at.slot < length old
slot_there read old at s e = let (slot, there, own) = slot_of read old at s e in slice_get_within old at.slot slot there

-- a new line stands so
pub stands_new : (read : Read) (q : Address) (key : Key) (o : LineOutline) (l : Line) → l.address ≡ Some (below q key) → l.base ≡ Some (length q)
    → HasOutline o l.body → line_standing read l ≡ record { address = Some (below q key); base = Some (length q); outline = o }
stands_new read q key o l address base (n, is, outlined) =
    ap₂ (λ x y. record { address = x; base = y; outline = body_outline read l.body }) address base
    ∙ ap (λ x. record { address = Some (below q key); base = Some (length q); outline = x }) (ap (body_outline read) is ∙ outlined)

pub kept_new : (text : List ℕ) (read : Read) (o : LineOutline) (body : Body) → HasOutline o body → BodyKept text read body
kept_new text read o body (n, is, outlined) = subst (BodyKept text read) (sym is) tt

pub puts_behind : (own : Address) (base : ℕ) (steps : List (String Global)) (v : ValueOutline) (manner : Manner) (texts : Texts) (read : Read)
    (place next : Position) (old mid now : List Slot) (newline : List ℕ) (ws : Leaf) (equals : Option Equals) (l laid : Line)
    → LaysOut manner.layout read old place ws equals → EndsBefore manner.newline texts read place old mid newline
    → IsPairLine own base steps v newline l → laid.address ≡ l.address → laid.base ≡ l.base → BodyBegins (leaf_text ws) (around equals) l.body laid.body
    → next.slot ≡ place.slot → (place.index + 1 < 2 ^ 64 → next.index ≡ place.index + 1) → PutsSlots read next laid mid now
    → PutsBehind own base steps v manner texts read place old now
puts_behind own base steps v manner texts read place next old mid now newline ws equals l laid lays ends is_line address base_same begins slot index puts q at_base key root low kept s e =
    let text = text_of texts.source in
    let (kept_mid, ended) = ends kept in
    let (becomes, newline_is) = ended s e in
    let (own_is, base_is, outlined) = is_line q at_base key root in
    let begun = body_begun (leaf_text ws) (around equals) l.body laid.body (new_outline plain_spacing key v newline) outlined begins in
    let stands = stands_new read q key (begun_as (leaf_text ws) (around equals) (new_outline plain_spacing key v newline)) laid (address ∙ own_is) (base_same ∙ base_is) begun in
    let within : next.slot < length mid = subst (λ k. k < length mid) (sym slot) (subst (λ n. place.slot < n) (sym becomes.count) (slot_there read old place s e)) in
    let (kept_now, are) = puts within text kept_mid (kept_new text read _ laid.body begun) in
    let before : lines_before read mid next.slot next.index ≡ lines_before read old place.slot place.index ++ ended_before manner.newline s s.outline.newline ∷ [] =
    ap₂ (lines_before read mid) slot (index low) ∙ becomes.before in
    let behind : lines_from read mid next.slot next.index ≡ lines_from read old place.slot (place.index + 1) = ap₂ (lines_from read mid) slot (index low) ∙ becomes.behind in
    let spacing = spacing_put manner (lines_before read old place.slot place.index) s in
    let new : line_standing read laid ≡ new_standing_in q spacing key v (newline_behind manner.newline s.outline.newline) =
    stands ∙ ap (λ o. record { address = Some (below q key); base = Some (length q); outline = o }) (begun_new (leaf_text ws) (around equals) key v newline)
    ∙ ap₂ (λ x n. new_standing_in q x key v n) (lays s e) newline_is in (
      kept_now,
      are ∙ ap₂ (λ x y. x ++ line_standing read laid ∷ y) before behind
          ∙ append_assoc (lines_before read old place.slot place.index) (ended_before manner.newline s s.outline.newline ∷ []) (line_standing read laid ∷ lines_from read old place.slot (place.index + 1))
          ∙ ap (λ x. lines_before read old place.slot place.index ++ (ended_before manner.newline s s.outline.newline ∷ x ∷ lines_from read old place.slot (place.index + 1))) new
          ∙ ap (λ x. lines_before read old place.slot place.index ++ (x ++ lines_from read old place.slot (place.index + 1))) (sym (line_put_is q spacing key v manner s s.outline.newline)),
    )

none_mapped : {X Y : Type 0} (f : X → Y) (xs : List X) → map f xs ≡ [] → xs ≡ []
none_mapped f [] is = refl
none_mapped f (x ∷ xs) is = cc

-- the spellings of the last steps
pub parts_named : (q : Address) (key : Key) (own : Address) (steps parts : List (String Global)) (n : ℕ) → IsKeyIn q key own steps
    → (length q ≤ length steps → n ≡ length q) → parts ≡ drop n steps → map string_bytes parts ≡ drop (length q) (map string_bytes steps)
parts_named q key own steps parts n named low is = elim (cases_lt (length steps) (length q)) [
  | inl past ↦ absurd (no_step (drop_all (length q) (map string_bytes steps) (let same = length-map steps string_bytes in omega (arith, past, same))))
  | inr within ↦
      ap (map string_bytes) (is ∙ ap (λ k. drop k steps) (low within)) ∙ sym (drop-map string_bytes (length q) steps)
]
  where
    no_step : drop (length q) (map string_bytes steps) ≡ [] → ⊥
    no_step none = named.some (none_mapped spelled key (sym named.steps_is ∙ none))

-- the line of a key in a table
pub pair_line_is : (own : Address) (base : ℕ) (steps parts : List (String Global)) (v : ValueOutline) (newline : List ℕ) (a : Assign) (l : Line)
    → ((q : Address) (key : Key) → base ≡ length q → IsKeyIn q key own steps → map string_bytes parts ≡ drop (length q) (map string_bytes steps))
    → assign a ≡ key_of (map string_bytes parts) → l.address ≡ Some own → l.base ≡ Some base → HasOutline (alone (Pair (assign a) v) newline) l.body
    → IsPairLine own base steps v newline l
pair_line_is own base steps parts v newline a l same assigns address base_is (n, is, outlined) q at_base key named =
    let assigned = assigns ∙ ap key_of (same q key at_base named ∙ named.steps_is) in (
      address ∙ ap Some named.at_is,
      base_is ∙ ap Some at_base,
      (n, is, outlined ∙ ap (λ x. alone (Pair x v) newline) assigned ∙ plain_key key named.some),
    )
  where
    plain_key : (k : Key) → ¬ (k ≡ []) → alone (Pair (key_of (map spelled k)) v) newline ≡ new_outline plain_spacing k v newline
    plain_key [] some = absurd (some refl)
    plain_key (m ∷ more) some = refl

-- ---- behind the last one of some lines

-- from each line in front of the rest on, another of the lines that are meant follows
abbrev pub Lead : (List Standing → Bool) → List Standing → List Standing → Type 0
Lead more [] rest = Unit {0}
Lead more (x ∷ front) rest = (more (front ++ rest) ≡ true) × Lead more front rest

module _ (more : List Standing → Bool) (name : List ℕ) (v : ValueOutline) (manner : Manner) (s : Standing) (back : List Standing) (none : more back ≡ false) where
  behind_put : (front : List Standing) → Lead more front (s ∷ back)
      → insert_behind more name v manner (front ++ s ∷ back) ≡ front ++ (line_behind name v manner s s.outline.newline ++ back)
  behind_put [] leads = ap (λ b. cond b (s ∷ insert_behind more name v manner back) (line_behind name v manner s s.outline.newline ++ back)) none
  behind_put (x ∷ front) leads =
      ap (λ b. cond b (x ∷ insert_behind more name v manner (front ++ s ∷ back)) (line_behind name v manner x x.outline.newline ++ (front ++ s ∷ back))) leads.0
      ∙ ap (λ r. x ∷ r) (behind_put front leads.1)

-- a line with a key and a value before a header
module _ (s : Standing) (back : List Standing) (pair : IsPair s) where
  no_header_or : (base : Option ℕ) (own : Option Address) → is_header base own ≡ false → pair_or base own true ≡ true
  no_header_or (Some n) own h = refl
  no_header_or None None h = refl
  no_header_or None (Some a) h = cc

  pub has_front : (front : List Standing) → EachIs IsNoHeader front → has_pair (front ++ s ∷ back) ≡ true
  has_front [] heads = ap (λ b. pair_or b s.address (has_pair back)) pair.1
  has_front (x ∷ front) heads = ap (pair_or x.base x.address) (has_front front heads.1) ∙ no_header_or x.base x.address heads.0

  pub pairs_lead : (front : List Standing) → EachIs IsNoHeader front → Lead has_pair front (s ∷ back)
  pairs_lead [] heads = tt
  pairs_lead (x ∷ front) heads = (has_front front heads.1, pairs_lead front heads.1)

  pair_no_header : is_header s.base s.address ≡ false
  pair_no_header = ap (λ b. is_header b s.address) pair.1

-- the lines, once a line and a new one are put in the place of one
pub put_behind_line : (read : Read) (place : Position) (old now : List Slot) (front : List Standing) (s : Standing) (back new : List Standing)
    → line_at read old place ≡ Some s → slots_standing read old ≡ front ++ s ∷ back → lines_from read old place.slot place.index ≡ s ∷ back
    → slots_standing read now ≡ lines_before read old place.slot place.index ++ (new ++ lines_from read old place.slot (place.index + 1))
    → slots_standing read now ≡ front ++ (new ++ back)
put_behind_line read place old now front s back new there is from are =
    let behind : back ≡ lines_from read old place.slot (place.index + 1) = behind_line read old place s back there from in
    let split : slots_standing read old ≡ lines_before read old place.slot place.index ++ s ∷ back =
    split_at read old place.slot place.index ∙ ap (λ r. lines_before read old place.slot place.index ++ r) from in
    let before : lines_before read old place.slot place.index ≡ front = append_cancel_right _ _ (s ∷ back) (sym split ∙ is) in
    are ∙ ap₂ (λ x y. x ++ (new ++ y)) before (sym behind)

-- the line is put in behind the last one of the root
pub behind_root : (own : Address) (steps : List (String Global)) (v : ValueOutline) (manner : Manner) (texts : Texts) (read : Read) (place : Position) (old now : List Slot)
    → (RootIsFirst (slots_standing read old) → IsLastPair read old (slots_standing read old) place)
    → PutsBehind own 0 steps v manner texts read place old now → InsertsLines own steps v manner (text_of texts.source) read old now
behind_root own steps v manner texts read place old now finds puts name root ss stands rooted =
    let last = finds (subst RootIsFirst (sym stands.are) rooted.first) in
    let s = last.line in
    let (kept_now, put_at) = puts [] refl (name ∷ []) root last.next stands.kept s last.there in
    let are = subst (λ x. slots_standing read now ≡ lines_before read old place.slot place.index ++ (line_put [] x (name ∷ []) v manner s s.outline.newline ++ lines_from read old place.slot (place.index + 1)))
    (put_behind_no_header manner (lines_before read old place.slot place.index) s (pair_no_header s last.back last.pair)) put_at in
    let split : ss ≡ last.front ++ s ∷ last.back = sym stands.are ∙ last.is in
    let has : has_pair ss ≡ true = ap has_pair split ∙ has_front s last.back last.pair last.front last.heads in
    record {
      kept = kept_now;
      are =
          put_behind_line read place old now last.front s last.back (line_behind name v manner s s.outline.newline) last.there last.is last.from are
          ∙ sym (behind_put has_pair name v manner s last.back last.none last.front (pairs_lead s last.back last.pair last.front last.heads))
          ∙ ap (insert_behind has_pair name v manner) (sym split)
          ∙ sym (ap (λ b. cond b (insert_behind has_pair name v manner ss) (insert_first name v manner ss)) has);
    }

-- ---- the first line of the root

-- it goes in where the root has no line with a key and a value
pub first_of_root : (own : Address) (steps : List (String Global)) (v : ValueOutline) (manner : Manner) (text : List ℕ) (read : Read) (old now : List Slot)
    → (RootIsFirst (slots_standing read old) → has_pair (slots_standing read old) ≡ false)
    → InsertsFirst own steps v manner text read old now → InsertsLines own steps v manner text read old now
first_of_root own steps v manner text read old now none puts name root ss stands rooted =
    let no_pair : has_pair ss ≡ false = subst (λ r. has_pair r ≡ false) stands.are (none (subst RootIsFirst (sym stands.are) rooted.first)) in
    let put = puts name root ss stands rooted no_pair in
    record {
      kept = put.kept;
      are = put.are ∙ sym (ap (λ b. cond b (insert_behind has_pair name v manner ss) (insert_first name v manner ss)) no_pair);
    }

-- before all lines,
pub before_all : (own : Address) (steps : List (String Global)) (v : ValueOutline) (manner : Manner) (text : List ℕ) (read : Read) (old now : List Slot) (l : Line)
    → goes_below manner.layout (slots_standing read old) ≡ false → IsPairLine own 0 steps v manner.newline l
    → PutsSlots read (record { slot = 0; index = 0 }) l old now → InsertsFirst own steps v manner text read old now
before_all own steps v manner text read old now l above is_line puts name root ss stands rooted no_pair = by old above puts stands
  where
    by : (xs : List Slot) → goes_below manner.layout (slots_standing read xs) ≡ false → PutsSlots read (record { slot = 0; index = 0 }) l xs now
        → Stands text read xs ss → Stands text read now (insert_first name v manner ss)
    by [] above puts stands = absurd (rooted.some (sym stands.are))
    by (x ∷ xs) above puts stands =
        let (own_is, base_is, outlined) = is_line [] refl (name ∷ []) root in
        let (kept_now, are) = puts (omega arith) text stands.kept (kept_new text read _ l.body outlined) in
        record {
          kept = kept_now;
          are =
              are ∙ ap₂ (λ n r. n ∷ r) (stands_new read [] (name ∷ []) (new_outline plain_spacing (name ∷ []) v manner.newline) l own_is base_is outlined) stands.are
              ∙ sym (ap (λ b. cond b (insert_behind has_comment name v manner ss) (new_standing plain_spacing name v manner.newline ∷ ss))
              (ap (goes_below manner.layout) (sym stands.are) ∙ above));
        }

-- or below the comment lines with which the text begins
comment_no_header : (s : Standing) → IsComment s → is_header s.base s.address ≡ false
comment_no_header s is = by s.base s.address (is_some s.outline.comment) is
  where
    by : (base : Option ℕ) (own : Option Address) (c : Bool) → (is_bare base own && c) ≡ true → is_header base own ≡ false
    by (Some n) own c h = refl
    by None None c h = refl
    by None (Some a) c h = let e : false ≡ true = h in cc

comments_lead : (s : Standing) (back front : List Standing) → IsComment s → EachIs IsComment front → Lead has_comment front (s ∷ back)
comments_lead s back [] comment comments = tt
comments_lead s back (x ∷ []) comment comments = (comment, tt)
comments_lead s back (x ∷ y ∷ front) comment comments = (comments.1.0, comments_lead s back (y ∷ front) comment comments.1)

pub below_comments : (own : Address) (steps : List (String Global)) (v : ValueOutline) (manner : Manner) (texts : Texts) (read : Read) (place : Position) (old now : List Slot)
    → manner.layout ≡ layouts.Follow → IsCommentsEnd read old (slots_standing read old) place
    → PutsBehind own 0 steps v manner texts read place old now → InsertsFirst own steps v manner (text_of texts.source) read old now
below_comments own steps v manner texts read place old now follows found puts name root ss stands rooted no_pair =
    let last = found.last in
    let s = last.line in
    let (kept_now, put_at) = puts [] refl (name ∷ []) root last.next stands.kept s last.there in
    let are = subst (λ x. slots_standing read now ≡ lines_before read old place.slot place.index ++ (line_put [] x (name ∷ []) v manner s s.outline.newline ++ lines_from read old place.slot (place.index + 1)))
    (put_behind_no_header manner (lines_before read old place.slot place.index) s (comment_no_header s last.comment)) put_at in
    let split : ss ≡ last.front ++ s ∷ found.rest = sym stands.are ∙ last.is in
    let below : goes_below manner.layout ss ≡ true =
    ap₂ goes_below follows split ∙ found_below s found.rest last.comment found.ends last.front last.comments in
    record {
      kept = kept_now;
      are =
          put_behind_line read place old now last.front s found.rest (line_behind name v manner s s.outline.newline) last.there last.is last.from are
          ∙ sym (behind_put has_comment name v manner s found.rest found.none last.front (comments_lead s found.rest last.front last.comment last.comments))
          ∙ ap (insert_behind has_comment name v manner) (sym split)
          ∙ sym (ap (λ b. cond b (insert_behind has_comment name v manner ss) (new_standing plain_spacing name v manner.newline ∷ ss)) below);
    }
