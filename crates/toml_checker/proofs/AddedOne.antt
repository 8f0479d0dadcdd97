-- What is found of the second text behind one unit more.
use Rattle.std.proofs.Common.{◌≡◌, ◌↔◌, Bool, true, false, ℕ, List, [], ◌∷◌, ◌++◌, map, None, refl, sym, ap, subst, ◌∙◌}
use Rattle.std.proofs.lemmas.List.{append-nil}
use Rattle.toml_tree.specs.Spells.{EachIs}
use Rattle.toml_units.specs.View.{Spanned}
use Rattle.toml_checker.specs.declared.added.Added.{Added}
use Rattle.toml_checker.specs.declared.added.Asked.{Asked}
use Rattle.toml_checker.specs.Added.{HasAdded, IsLineAsked, is_new, new_from, reach_from}
use Rattle.toml_checker.specs.Counts.{plain}
use Rattle.toml_checker.specs.Marks.{reach_with}
use Rattle.toml_checker.specs.Traces.{Met}
use Rattle.toml_checker.specs.UnmarkedComments.{text_at}
use Rattle.toml_checker.specs.WrittenComments.{IsAllowed}
use Rattle.toml_checker.proofs.Traced.{each_append, each_back, each_front, new_push, one_new, reach_push}

-- each of one more
pub each_push : {A : Type 0} (P : A → Type 0) (xs : List A) (x : A) (old new : Bool) → (old ≡ true) ↔ EachIs P xs → (new ≡ true) ↔ ((old ≡ true) × P x) → (new ≡ true) ↔ EachIs P (xs ++ x ∷ [])
each_push P xs x old new h is = (
  (λ e. each_append P xs (x ∷ []) (h.0 (is.0 e).0) ((is.0 e).1, tt)),
  (λ w. is.1 (h.1 (each_front P xs (x ∷ []) w), (each_back P xs (x ∷ []) w).0)),
)

map_push : (text : List ℕ) (xs : List Spanned) (u : Spanned) → map (text_at text) (xs ++ u ∷ []) ≡ map (text_at text) xs ++ text_at text u ∷ []
map_push text [] u = refl
map_push text (x ∷ xs) u = ap (λ ts. text_at text x ∷ ts) (map_push text xs u)

module _ (asked : Asked) (text : List ℕ) (ms : List Met) (m : Met) (old new : Added) (h : HasAdded asked text ms old)
    (lines : (new.lines ≡ true) ↔ ((old.lines ≡ true) × IsLineAsked asked m))
    (reach : new.reach ≡ reach_with old.reach m.paired m.lined.unit.stop) where
  reached : new.reach ≡ reach_from None (ms ++ m ∷ [])
  reached = reach ∙ ap (λ r. reach_with r m.paired m.lined.unit.stop) h.reach ∙ sym (reach_push None ms m)

  -- a unit that is no new comment
  pub old_one : is_new old.reach m ≡ false → new.allowed ≡ old.allowed → new.texts ≡ old.texts → HasAdded asked text (ms ++ m ∷ []) new
  old_one none allowed texts =
      let same : new_from None (ms ++ m ∷ []) ≡ new_from None ms = new_push None ms m ∙ ap (λ b. new_from None ms ++ one_new b m) (ap (λ r. is_new r m) (sym h.reach) ∙ none) ∙ append-nil (new_from None ms) in
      record {
        lines = each_push (IsLineAsked asked) ms m old.lines new.lines h.lines lines;
        reach = reached;
        allowed = subst (λ us. (new.allowed ≡ true) ↔ EachIs (IsAllowed asked.written.items text) us) (sym same) (subst (λ b. (b ≡ true) ↔ EachIs (IsAllowed asked.written.items text) (new_from None ms)) (sym allowed) h.allowed);
        texts = ap (λ ts. plain ts.items) texts ∙ h.texts ∙ ap (map (text_at text)) (sym same);
      }

  -- a new comment
  pub new_one : is_new old.reach m ≡ true → (new.allowed ≡ true) ↔ ((old.allowed ≡ true) × IsAllowed asked.written.items text m.lined.unit) → plain new.texts.items ≡ plain old.texts.items ++ text_at text m.lined.unit ∷ []
      → HasAdded asked text (ms ++ m ∷ []) new
  new_one is allowed texts =
      let P = IsAllowed asked.written.items text in
      let more : new_from None (ms ++ m ∷ []) ≡ new_from None ms ++ m.lined.unit ∷ [] = new_push None ms m ∙ ap (λ b. new_from None ms ++ one_new b m) (ap (λ r. is_new r m) (sym h.reach) ∙ is) in
      record {
        lines = each_push (IsLineAsked asked) ms m old.lines new.lines h.lines lines;
        reach = reached;
        allowed = subst (λ us. (new.allowed ≡ true) ↔ EachIs P us) (sym more) (
          (λ e. each_append P (new_from None ms) (m.lined.unit ∷ []) (h.allowed.0 (allowed.0 e).0) ((allowed.0 e).1, tt)),
          (λ w. allowed.1 (h.allowed.1 (each_front P (new_from None ms) (m.lined.unit ∷ []) w), (each_back P (new_from None ms) (m.lined.unit ∷ []) w).0)),
        );
        texts = texts ∙ ap (λ ts. ts ++ text_at text m.lined.unit ∷ []) h.texts ∙ sym (map_push text (new_from None ms) m.lined.unit) ∙ ap (map (text_at text)) (sym more);
      }
