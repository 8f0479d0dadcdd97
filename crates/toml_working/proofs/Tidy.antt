-- Tidy pieces with one more at their end, or with another last one.
use Rattle.std.proofs.Common.{◌≡◌, ◌≢◌, ◌<◌, ◌≤◌, ◌-◌, ◌∙◌, ℕ, List, [], ◌∷◌, ◌++◌, arith, ap, sym, subst, length, string_bytes, slice_get, String, Global, IsTrue, nat_eq, Option, Some, None, ◌↔◌, suc, unwrap_or}
use Rattle.toml_text.specs.Source.{IsHeld}
use Rattle.toml_text.specs.declared.span.Span.{Span}
use Rattle.toml_tree.specs.Spells.{EachIs}
use Rattle.toml_units.specs.Pieces.{IsHeldPiece}
use Rattle.toml_units.specs.declared.piece.Piece.{Piece}
use Rattle.toml_units.specs.declared.piece.Piece.TheVariants.{Kept, New}
use Rattle.toml_working.proofs.Each.{each_append, each_front, each_back, each_weaker}
use Rattle.toml_working.specs.Tidy.{RiseFrom, IsFull, AreApart, NeighboursAreApart, EndsBy, AreTidyUpTo, IsKeptTo, IsNew, EndsWith, TakesKept, TakesNew}

-- what ends by a place ends by a later one
ends_later : (n m : ℕ) → n ≤ m → (p : Piece) → EndsBy n p → EndsBy m p
ends_later n m le (Kept span) h = omega arith
ends_later n m le (New new) h = tt

-- a piece behind the place where all end
rise_more : (at end : ℕ) (p : Piece) (ps : List Piece) → at ≤ end → RiseFrom at ps → EachIs (EndsBy end) ps → RiseFrom end (p ∷ []) → RiseFrom at (ps ++ p ∷ [])
rise_more at end (Kept span) [] le r b h = (omega (arith, h.0), tt)
rise_more at end (New new) [] le r b h = tt
rise_more at end p (Kept span ∷ ps) le r b h = (r.0, rise_more span.end end p ps b.0 r.1 b.1 h)
rise_more at end p (New new ∷ ps) le r b h = rise_more at end p ps le r b.1 h

rise_changed : (p q : Piece) → ((at : ℕ) → RiseFrom at (p ∷ []) → RiseFrom at (q ∷ [])) → (at : ℕ) (ps : List Piece) → RiseFrom at (ps ++ p ∷ []) → RiseFrom at (ps ++ q ∷ [])
rise_changed p q f at [] r = f at r
rise_changed p q f at (Kept span ∷ ps) r = (r.0, rise_changed p q f span.end ps r.1)
rise_changed p q f at (New new ∷ ps) r = rise_changed p q f at ps r

rise_front : (at : ℕ) (ps qs : List Piece) → RiseFrom at (ps ++ qs) → RiseFrom at ps
rise_front at [] qs r = tt
rise_front at (Kept span ∷ ps) qs r = (r.0, rise_front span.end ps qs r.1)
rise_front at (New new ∷ ps) qs r = rise_front at ps qs r

apart_front : (ps qs : List Piece) → NeighboursAreApart (ps ++ qs) → NeighboursAreApart ps
apart_front [] qs h = tt
apart_front (p ∷ []) qs h = tt
apart_front (p ∷ (q ∷ ps)) qs h = (h.0, apart_front (q ∷ ps) qs h.1)

apart_more : (P : Piece → Type 0) (p : Piece) → ((q : Piece) → ¬ P q → AreApart q p) → (ps : List Piece) → NeighboursAreApart ps → ¬ EndsWith P ps → NeighboursAreApart (ps ++ p ∷ [])
apart_more P p f [] h lacks = tt
apart_more P p f (q ∷ []) h lacks = (f q lacks, tt)
apart_more P p f (q ∷ (r ∷ ps)) h lacks = (h.0, apart_more P p f (r ∷ ps) h.1 lacks)

apart_changed : (p q : Piece) → ((r : Piece) → AreApart r p → AreApart r q) → (ps : List Piece) → NeighboursAreApart (ps ++ p ∷ []) → NeighboursAreApart (ps ++ q ∷ [])
apart_changed p q f [] h = tt
apart_changed p q f (r ∷ []) h = (f r h.0, tt)
apart_changed p q f (r ∷ (s ∷ ps)) h = (h.0, apart_changed p q f (s ∷ ps) h.1)

-- the pieces that are tidy are so with a later end
pub tidy_later : (text : List ℕ) (end later : ℕ) (ps : List Piece) → end ≤ later → AreTidyUpTo text end ps → AreTidyUpTo text later ps
tidy_later text end later ps le h = record { tidy = h.tidy; before = each_weaker (EndsBy end) (EndsBy later) (ends_later end later le) ps h.before }

-- one more piece, which is apart from the last one
pub tidy_more : (text : List ℕ) (end later : ℕ) (p : Piece) (P : Piece → Type 0) → IsHeldPiece text p → IsFull p → RiseFrom end (p ∷ []) → EndsBy later p → ((q : Piece) → ¬ P q → AreApart q p) → end ≤ later → (ps : List Piece) → AreTidyUpTo text end ps → ¬ EndsWith P ps → AreTidyUpTo text later (ps ++ p ∷ [])
tidy_more text end later p P held full rise by f le ps h lacks =
    record {
      tidy = record {
        held = each_append (IsHeldPiece text) ps (p ∷ []) h.tidy.held (held, tt);
        rise = rise_more 0 end p ps (omega arith) h.tidy.rise h.before rise;
        full = each_append IsFull ps (p ∷ []) h.tidy.full (full, tt);
        apart = apart_more P p f ps h.tidy.apart lacks;
      };
      before = each_append (EndsBy later) ps (p ∷ []) (each_weaker (EndsBy end) (EndsBy later) (ends_later end later le) ps h.before) (by, tt);
    }

-- another last piece, which begins as the last one does
pub tidy_changed : (text : List ℕ) (end later : ℕ) (p q : Piece) → IsHeldPiece text q → IsFull q → ((at : ℕ) → RiseFrom at (p ∷ []) → RiseFrom at (q ∷ [])) → EndsBy later q → ((r : Piece) → AreApart r p → AreApart r q) → end ≤ later → (ps : List Piece) → AreTidyUpTo text end (ps ++ p ∷ []) → AreTidyUpTo text later (ps ++ q ∷ [])
tidy_changed text end later p q held full rise by f le ps h =
    record {
      tidy = record {
        held = each_append (IsHeldPiece text) ps (q ∷ []) (each_front (IsHeldPiece text) ps (p ∷ []) h.tidy.held) (held, tt);
        rise = rise_changed p q rise 0 ps h.tidy.rise;
        full = each_append IsFull ps (q ∷ []) (each_front IsFull ps (p ∷ []) h.tidy.full) (full, tt);
        apart = apart_changed p q f ps h.tidy.apart;
      };
      before = each_append (EndsBy later) ps (q ∷ []) (each_weaker (EndsBy end) (EndsBy later) (ends_later end later le) ps (each_front (EndsBy end) ps (p ∷ []) h.before)) (by, tt);
    }

touches_not : (span : Span) (q : Piece) → ¬ IsKeptTo span.start q → AreApart q (Kept span)
touches_not span (Kept last) lacks = lacks
touches_not span (New last) lacks = tt

is_not_new : (new : String Global) (q : Piece) → ¬ IsNew q → AreApart q (New new)
is_not_new new (Kept last) lacks = tt
is_not_new new (New last) lacks = lacks tt

same_start : (span : Span) (end : ℕ) (q : Piece) → AreApart q (Kept span) → AreApart q (Kept (record { start = span.start; end = end }))
same_start span end (Kept last) h = h
same_start span end (New last) h = h

as_new : (last new : String Global) (q : Piece) → AreApart q (New last) → AreApart q (New new)
as_new last new (Kept span) h = h
as_new last new (New text) h = h

-- what holds of the last piece
pub ends_with : (P : Piece → Type 0) (p : Piece) (ps : List Piece) → Some p ≡ slice_get ps (length ps - 1) → P p ↔ EndsWith P ps
ends_with P p [] is = absurd (grind arith)
ends_with P p (q ∷ []) is =
    let same : p ≡ q = ap (λ o. unwrap_or o p) is in
    (λ h. subst P same h, λ h. subst P (sym same) h)
ends_with P p (q ∷ (r ∷ ps)) is =
    let count : length (q ∷ (r ∷ ps)) - 1 ≡ suc (length (r ∷ ps) - 1) = omega arith in
    ends_with P p (r ∷ ps) (is ∙ ap (slice_get (q ∷ (r ∷ ps))) count)

pub end_is : (P : Piece → Type 0) (ps : List Piece) (p : Piece) → EndsWith P (ps ++ p ∷ []) → P p
end_is P [] p h = h
end_is P (q ∷ []) p h = h
end_is P (q ∷ (r ∷ ps)) p h = end_is P (r ∷ ps) p h

pub ends_kept : (place : ℕ) (last : Span) (ps : List Piece) → Some (Kept last) ≡ slice_get ps (length ps - 1) → IsTrue (nat_eq last.end place) ↔ EndsWith (IsKeptTo place) ps
ends_kept place last ps is =
    let h = ends_with (IsKeptTo place) (Kept last) ps is in
    (λ t. h.0 (grind arith), λ e. let same : last.end ≡ place = h.1 e in grind arith)

module _ (text : List ℕ) (end : ℕ) (ps : List Piece) (tidy : AreTidyUpTo text end ps) where
  -- a span that touches no last one
  pub kept_more : (span : Span) → IsHeld text span → end ≤ span.start → span.start < span.end → ¬ EndsWith (IsKeptTo span.start) ps → AreTidyUpTo text span.end (ps ++ Kept span ∷ [])
  kept_more span held behind full lacks =
      tidy_more text end span.end (Kept span) (IsKeptTo span.start) held full (behind, tt) (omega arith) (touches_not span) (omega arith) ps tidy lacks

  -- a new text behind no new text
  pub new_more : (new : String Global) → string_bytes new ≢ [] → ¬ EndsWith IsNew ps → AreTidyUpTo text end (ps ++ New new ∷ [])
  new_more new full lacks = tidy_more text end end (New new) IsNew tt full tt tt (is_not_new new) (omega arith) ps tidy lacks

-- the pieces without the last one
pub tidy_front : (text : List ℕ) (end : ℕ) (ps qs : List Piece) → AreTidyUpTo text end (ps ++ qs) → AreTidyUpTo text end ps
tidy_front text end ps qs h =
    record {
      tidy = record {
        held = each_front (IsHeldPiece text) ps qs h.tidy.held;
        rise = rise_front 0 ps qs h.tidy.rise;
        full = each_front IsFull ps qs h.tidy.full;
        apart = apart_front ps qs h.tidy.apart;
      };
      before = each_front (EndsBy end) ps qs h.before;
    }

-- the last span up to the end of another one behind it
pub kept_grown : (text : List ℕ) (end : ℕ) (ps : List Piece) (last span : Span) → AreTidyUpTo text end (ps ++ Kept last ∷ []) → IsHeld text span → end ≤ span.start → AreTidyUpTo text span.end (ps ++ Kept (record { start = last.start; end = span.end }) ∷ [])
kept_grown text end ps last span h held behind =
    let grown : Piece = Kept (record { start = last.start; end = span.end }) in
    let full : last.start < last.end = (each_back IsFull ps (Kept last ∷ []) h.tidy.full).0 in
    let before : last.end ≤ end = (each_back (EndsBy end) ps (Kept last ∷ []) h.before).0 in
    let was : IsHeld text last = (each_back (IsHeldPiece text) ps (Kept last ∷ []) h.tidy.held).0 in
    let order : span.start ≤ span.end = held.order in
    tidy_changed text end span.end (Kept last) grown
    (record { order = omega arith; start = was.start; end = held.end })
    (omega arith)
    (λ _ r. r)
    (omega arith)
    (same_start last span.end)
    (omega arith)
    ps
    h

-- the last new text with more behind it
pub new_grown : (text : List ℕ) (end : ℕ) (ps : List Piece) (last new : String Global) → AreTidyUpTo text end (ps ++ New last ∷ []) → string_bytes new ≢ [] → AreTidyUpTo text end (ps ++ New new ∷ [])
new_grown text end ps last new h full =
    tidy_changed text end end (New last) (New new) tt full (λ _ r. r) tt (as_new last new) (omega arith) ps h

-- what is left where the last piece is taken out
pub left_of_kept : (text : List ℕ) (end place : ℕ) (ps qs : List Piece) (r : Option Span) → TakesKept place ps qs r → AreTidyUpTo text end ps → AreTidyUpTo text end qs
left_of_kept text end place ps qs None t h = rw t.0 h
left_of_kept text end place ps qs (Some last) t h = tidy_front text end qs (Kept last ∷ []) (subst (AreTidyUpTo text end) t.1 h)

pub left_of_new : (text : List ℕ) (end : ℕ) (ps qs : List Piece) (r : Option (String Global)) → TakesNew ps qs r → AreTidyUpTo text end ps → AreTidyUpTo text end qs
left_of_new text end ps qs None t h = rw t.0 h
left_of_new text end ps qs (Some last) t h = tidy_front text end qs (New last ∷ []) (subst (AreTidyUpTo text end) t h)

-- a text is not empty where one that is not stands at its end
pub longer : (xs ys zs : List ℕ) → zs ≡ xs ++ ys → ys ≢ [] → zs ≢ []
longer [] ys zs is full none = full (sym is ∙ none)
longer (x ∷ xs) ys zs is full none = absurd (grind (arith, is, none))
