-- A text is at most one value, one pair and one expression: each is what the plain reader reads.
use Rattle.std.proofs.Common.{◌≡◌, ℕ, ◌+◌, ◌≤◌, List, [], ◌++◌, length, Option, Some, None, sym, refl, ap, ◌∙◌, subst, arith, inl}
use Rattle.std.specs.Prelude.{IfSome}
use Rattle.std.proofs.lemmas.Option.{none-some, some_pair_parts}
use Rattle.toml_scalar.specs.Faults.{place_of, IsAt}
use Rattle.toml_scalar.specs.declared.fault.SyntaxFault.{SyntaxFault}
use Rattle.toml_tree.specs.Document.{RefusesValue}
use Rattle.toml_tree.specs.Reads.{Fails, end}
use Rattle.toml_tree.specs.Tree.{Value, KeyVal, Expr}
use Rattle.toml_tree.specs.Profiles.{IsValueOfProfile, IsNoValue}
use Rattle.toml_tree.specs.Spells.{Part, joined, Placed, value_parts, keyval_parts, expr_parts, SpellsValue, SpellsKeyVal, SpellsExpr, max_depth}
use Rattle.toml_tree.specs.declared.profile.Profile.{Profile}
use Rattle.toml_tree.specs.declared.profile.Profile.TheVariants.{Two}
use Rattle.toml_tree.specs.Laws.{ValueReaderIsSound, ValueReaderIsComplete, OneValue, OneKeyVal, OneExpr}
use Rattle.toml_tree.specs.Reading.{Cursor}
use Rattle.toml_tree.specs.ReadingValues.{value_at, keyval_at}
use Rattle.toml_tree.specs.ReadingLines.{expr_at}
use Rattle.toml_tree.proofs.Spans.{Spans, spans_from, spans_joined, spans_placed}
use Rattle.toml_tree.proofs.CompleteValues.{value_complete, keyval_complete}
use Rattle.toml_tree.proofs.CompleteLines.{expr_complete}
use Rattle.std.proofs.lemmas.List.{append-nil}
use Rattle.std.proofs.Math.Seq.{drop-length}
use Rattle.toml_tree.proofs.SoundValues.{ValueIs, value_sound}

-- where a text begins and where it ends
abbrev front : ℕ → List ℕ → Cursor
front at text = record { at = at; rest = text }

abbrev back : ℕ → List ℕ → Cursor
back at text = record { at = at + length text; rest = [] }

-- parts that are the text stand between its ends
stands : (ps : List Part) (at : ℕ) (text : List ℕ) → joined ps ≡ text → Placed at ps → Spans ps (front at text) (back at text)
stands ps at text is placed = subst (λ t. Spans ps (front at t) (back at text)) (append-nil text) (subst (λ t. Spans ps (front at (t ++ [])) (back at t)) is (spans_from ps at [] placed))

value_read : (p : Profile) (v : Value) (at : ℕ) (text : List ℕ) → SpellsValue v at text → IsValueOfProfile p v → value_at p max_depth (front at text) ≡ Some (v, back at text)
value_read p v at text h plain = value_complete v p max_depth h.form h.shallow plain (front at text) (back at text) (stands (value_parts v) at text h.text_is h.placed) tt

pub value_is_read : ValueReaderIsComplete
value_is_read p v c h plain = value_read p v c.at c.rest h plain ∙ ap (λ l. Some (v, record { at = c.at + length c.rest; rest = l })) (sym (drop-length c.rest))

pub one_value : OneValue
one_value v w at text h k = (some_pair_parts _ _ _ _ (sym (value_read Two v at text h tt) ∙ value_read Two w at text k tt)).0

keyval_read : (k : KeyVal) (at : ℕ) (text : List ℕ) → SpellsKeyVal k at text → keyval_at (value_at Two max_depth) (front at text) ≡ Some (k, back at text)
keyval_read k at text h = keyval_complete k Two max_depth (front at text) (back at text) h.form.0 h.form.1 h.form.2 tt (stands (keyval_parts k) at text h.text_is h.placed) tt

pub one_keyval : OneKeyVal
one_keyval k l at text h j = (some_pair_parts _ _ _ _ (sym (keyval_read k at text h) ∙ keyval_read l at text j)).0

expr_read : (e : Expr) (at : ℕ) (text : List ℕ) → SpellsExpr e at text → expr_at Two (front at text) ≡ Some (e, back at text)
expr_read e at text h = expr_complete Two e (front at text) (back at text) h.form tt (stands (expr_parts e) at text h.text_is h.placed) (inl refl)

pub one_expr : OneExpr
one_expr e f at text h k = (some_pair_parts _ _ _ _ (sym (expr_read e at text h) ∙ expr_read f at text k)).0

-- a text is no value where the plain reader reads none of it, or not all
value_none : (p : Profile) (text : List ℕ) (c : Cursor) → c ≡ front 0 text → ((v : Value) (d : Cursor) → value_at p max_depth c ≡ Some (v, d) → d.rest ≡ [] → ⊥) → IsNoValue p text
value_none p text c is none v h = none v (back 0 text) (ap (value_at p max_depth) is ∙ value_read p v 0 text h.0 h.1) refl

-- nothing was read
pub value_refused : (p : Profile) (text : List ℕ) (fault : SyntaxFault) (c : Cursor) → c ≡ front 0 text → Fails (end c) fault (value_at p max_depth c) → RefusesValue p text fault
value_refused p text fault c is fails = refused (place_of fault) fails
  where
    refused : (place : Option ℕ) → IfSome place (λ at. (at ≤ end c) × (value_at p max_depth c ≡ None)) → IfSome place (λ at. (at ≤ length text) × IsNoValue p text)
    refused None h = tt
    refused (Some at) h = (omega (arith, ap end is), value_none p text c is (λ v d read all. none-some _ (sym h.1 ∙ read)))

-- something stands behind what was read
pub value_left : (p : Profile) (text : List ℕ) (fault : SyntaxFault) (c d : Cursor) (v : Value) → c ≡ front 0 text → value_at p max_depth c ≡ Some (v, d) → end d ≡ end c → (d.rest ≡ [] → ⊥) → IsAt d.at fault → RefusesValue p text fault
value_left p text fault c d v is read total left at =
    let whole : (w : Value) (e : Cursor) → value_at p max_depth c ≡ Some (w, e) → e.rest ≡ [] → ⊥ = λ w e again all. left (ap (λ x. x.rest) (some_pair_parts _ _ _ _ (sym read ∙ again)).1 ∙ all) in
    rw at (omega (arith, total, ap end is), value_none p text c is whole)

-- parts that stand up to the end are the text
spans_text : (ps : List Part) (c d : Cursor) → Spans ps c d → d.rest ≡ [] → joined ps ≡ c.rest
spans_text ps c d s none = sym (append-nil (joined ps)) ∙ ap (λ l. joined ps ++ l) (sym none) ∙ sym (spans_joined ps c d s).rest

-- what is read up to the end is spelled
pub value_found : ValueReaderIsSound
value_found p v c d e none =
    let k : ValueIs p max_depth c (v, d) = subst (λ o. IfSome o (ValueIs p max_depth c)) e (value_sound p max_depth c) in (
      record {
        form = k.0;
        shallow = k.1;
        text_is = spans_text (value_parts v) c d k.2 none;
        placed = spans_placed (value_parts v) c d k.2;
      },
      k.3,
    )
