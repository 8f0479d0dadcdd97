-- What edits write, by the definitions and as the code holds it.
use Rattle.std.proofs.Common.{◌≡◌, ℕ, ◌<◌, inl, inr, List, [], ◌∷◌, ◌++◌, map, Option, Some, None, refl, sym, ap, subst, ◌∙◌}
use Rattle.std.specs.List.{filter, flat_map}
use Rattle.std.specs.Prelude.{Contains}
use Rattle.toml_tree.proofs.Proved.{one_value}
use Rattle.toml_names.specs.model.Addresses.{Address}
use Rattle.toml_edits.specs.Edits.{Change, set, insert, rename, remove, new_section, new_element, place}
use Rattle.toml_edits.specs.Lists.{carried}
use Rattle.toml_units.specs.Units.{TextUnit, inside}
use Rattle.toml_checker.specs.declared.written.Written.{Written}
use Rattle.toml_checker.specs.CarriedTo.{IsAtOrAbove, At}
use Rattle.toml_checker.specs.Comments.{is_comment, texts, AreCommentsOf, AreCommentsIn, AreWritten, IsWritten, times}
use Rattle.toml_checker.specs.Counts.{plain, count_of}
use Rattle.toml_checker.specs.WrittenComments.{IsWrittenBy, AreWrittenBy, Writes, AnyWrites}
use Rattle.toml_checker.proofs.Times.{seen_is, has_some, some_times}

abbrev pub lists : List Written → List (List (List ℕ))
lists ws = map (λ (w : Written). plain w.texts.items) ws

-- the texts are one list
comments_once : (value : List ℕ) (ts us : List (List ℕ)) → AreCommentsOf value ts → AreCommentsOf value us → ts ≡ us
comments_once value ts us (v, one, first) (w, two, second) =
    let same = one_value v w 0 value one two in
    first ∙ ap (λ x. texts (filter (λ (u : TextUnit). is_comment u.kind) (inside [] x))) same ∙ sym second

in_once : (c : Change) (ts us : List (List ℕ)) → AreCommentsIn c ts → AreCommentsIn c us → ts ≡ us
in_once (set at value) ts us h k = comments_once value ts us h k
in_once (insert at value) ts us h k = comments_once value ts us h k
in_once (rename at to) ts us h k = h ∙ sym k
in_once (remove at) ts us h k = h ∙ sym k
in_once (new_section at) ts us h k = h ∙ sym k
in_once (new_element at) ts us h k = h ∙ sym k

pub written_once : (cs : List Change) (xs ys : List (List (List ℕ))) → AreWritten cs xs → AreWritten cs ys → xs ≡ ys
written_once [] [] [] h k = refl
written_once [] [] (y ∷ ys) h k = absurd k
written_once [] (x ∷ xs) ys h k = absurd h
written_once (c ∷ cs) [] ys h k = absurd h
written_once (c ∷ cs) (x ∷ xs) [] h k = absurd k
written_once (c ∷ cs) (x ∷ xs) (y ∷ ys) h k = let first = in_once c x y h.0 k.0 in let rest = written_once cs xs ys h.1 k.1 in λ i. first i ∷ rest i

pub written_are : (cs : List Change) (ws : List Written) → AreWrittenBy cs ws → AreWritten cs (lists ws)
written_are [] [] h = tt
written_are [] (w ∷ ws) h = absurd h
written_are (c ∷ cs) [] h = absurd h
written_are (c ∷ cs) (w ∷ ws) h = (h.0.comments, written_are cs ws h.1)

-- a place that is there
at_there : (o : Option Address) (P : Address → Type 0) → At o P → (to : Address) × (o ≡ Some to) × P to
at_there None P h = absurd h
at_there (Some a) P h = (a, refl, h)

there_at : (o : Option Address) (P : Address → Type 0) (to : Address) → o ≡ Some to → P to → At o P
there_at o P to is h = subst (λ x. At x P) (sym is) h

module _ (c : Change) (later : List Change) (w : Written) (is : IsWrittenBy c later w) (u : TextUnit) where
  abbrev text : List ℕ
  text = u.piece.text

  abbrev Given : Type 0
  Given = Contains (plain w.texts.items) text × (to : Address) × (carried later (place c) ≡ Some to) × At u.address (IsAtOrAbove to)

  count : count_of w.counts text ≡ times text (plain w.texts.items)
  count = is.counts text ∙ seen_is text w.texts.items

  given : Writes w u.address text → Given
  given h =
      let p = at_there w.at (λ to. At u.address (IsAtOrAbove to)) h.1 in
      (has_some text (plain w.texts.items) (subst (λ n. 0 < n) count h.0), p.0, sym is.at ∙ p.1, p.2)

  gives : Given → Writes w u.address text
  gives h = (subst (λ n. 0 < n) (sym count) (some_times text (plain w.texts.items) h.0), there_at w.at (λ to. At u.address (IsAtOrAbove to)) h.1 (is.at ∙ h.2) h.3)

pub is_written : (cs : List Change) (ws : List Written) → AreWrittenBy cs ws → (u : TextUnit) → AnyWrites ws u.address u.piece.text → IsWritten cs (lists ws) u
is_written [] [] h u k = absurd k
is_written [] (w ∷ ws) h u k = absurd h
is_written (c ∷ cs) [] h u k = absurd h
is_written (c ∷ cs) (w ∷ ws) h u (inl k) = inl (given c cs w h.0 u k)
is_written (c ∷ cs) (w ∷ ws) h u (inr k) = inr (is_written cs ws h.1 u k)

pub writes_it : (cs : List Change) (ws : List Written) → AreWrittenBy cs ws → (u : TextUnit) → IsWritten cs (lists ws) u → AnyWrites ws u.address u.piece.text
writes_it [] ws h u k = absurd k
writes_it (c ∷ cs) [] h u k = absurd h
writes_it (c ∷ cs) (w ∷ ws) h u (inl k) = inl (gives c cs w h.0 u k)
writes_it (c ∷ cs) (w ∷ ws) h u (inr k) = inr (writes_it cs ws h.1 u k)

pub flat_lists : (ws : List Written) → flat_map (λ (w : Written). plain w.texts.items) ws ≡ flat_map (λ (ts : List (List ℕ)). ts) (lists ws)
flat_lists [] = refl
flat_lists (w ∷ ws) = ap (λ rest. plain w.texts.items ++ rest) (flat_lists ws)
