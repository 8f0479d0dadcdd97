-- The text of entries, one after the other.
use Rattle.std.proofs.Common.{◌≡◌, ◌∙◌, ◌<◌, ◌^◌, ℕ, zero, suc, Bool, true, false, List, [], ◌∷◌, ◌++◌, drop, length, map, reverse, Option, Some, None, Vec, ap, sym, append_assoc, append-nil, arith}
use Rattle.std.proofs.lemmas.List.{length-append, length-reverse}
use Rattle.std.proofs.lemmas.Option.{same_Some}
use Rattle.std.specs.Global.{Global}
use Rattle.std.specs.Prelude.{option_map, slice_get}
use Rattle.toml_lists.specs.Gaps.{items}
use Rattle.toml_layout.proofs.Proved.{entries_is}
use Rattle.toml_layout.specs.declared.tree.Entries.{Entries}
use Rattle.toml_layout.specs.declared.tree.Entry.{Entry}
use Rattle.toml_layout.specs.declared.tree.Value.TheViews.{out-Entries}
use Rattle.toml_layout.specs.OpenOutlines.{EntryOutline, entry, entries, entry_outlined, entries_of, gap_read}
use Rattle.toml_layout.specs.Parts.{PartOutline, parts_outlined}
use Rattle.toml_layout.specs.Outlines.{End, comma_if, entries_outlined, own_assign_outlined, value_outlined}

-- the first entry, with a comma where one stands before it, and all behind it
entry_first : (behind : Bool) (e : EntryOutline) (rest : List ℕ)
    → comma_if behind ++ (parts_outlined e.before ++ (own_assign_outlined e.assign ++ (value_outlined e.value ++ (parts_outlined e.after ++ rest))))
    ≡ comma_if behind ++ (entry_outlined e ++ rest)
entry_first behind e rest =
    let v = value_outlined e.value in
    let a = own_assign_outlined e.assign in
    let before = parts_outlined e.before in
    let after = parts_outlined e.after in
    ap (λ r. comma_if behind ++ r) (sym (append_assoc before (a ++ (v ++ after)) rest
    ∙ ap (λ r. before ++ r) (append_assoc a (v ++ after) rest ∙ ap (λ r. a ++ r) (append_assoc v after rest))))

-- it is written, the others are left
pub entry_written : (behind : Bool) (e : EntryOutline) (es : List EntryOutline) (end : Option (List PartOutline)) (out mid new : List ℕ) → mid ≡ out ++ comma_if behind → new ≡ mid ++ entry_outlined e
    → new ++ entries_outlined true (entries_of es end) ≡ out ++ entries_outlined behind (entries_of (e ∷ es) end)
entry_written behind e es end out mid new comma here =
    let rest = entries_outlined true (entries_of es end) in
    ap (λ r. r ++ rest) here ∙ append_assoc mid (entry_outlined e) rest ∙ ap (λ r. r ++ (entry_outlined e ++ rest)) comma
    ∙ append_assoc out (comma_if behind) (entry_outlined e ++ rest) ∙ ap (λ r. out ++ r) (sym (entry_first behind e rest))

-- an entry is written: there was a comma to write or none
pub entry_passed : (behind : Bool) (e : EntryOutline) (es : List EntryOutline) (end : Option (List PartOutline)) (out mid new all : List ℕ) (rest : List EntryOutline)
    → rest ≡ e ∷ es → mid ≡ out ++ comma_if behind → new ≡ mid ++ entry_outlined e → out ++ entries_outlined behind (entries_of rest end) ≡ all
    → new ++ entries_outlined true (entries_of es end) ≡ all
entry_passed behind e es end out mid new all rest is comma here so_far =
    entry_written behind e es end out mid new comma here ∙ ap (λ r. out ++ entries_outlined behind (entries_of r end)) (sym is) ∙ so_far

-- all are written, and no comma stands behind the last
pub entries_ended : (behind : Bool) (rest es : List EntryOutline) (end : Option (List PartOutline)) (old out : List ℕ) → rest ≡ [] → end ≡ None
    → out ++ entries_outlined behind (entries_of rest end) ≡ old ++ entries_outlined false (entries_of es end) → out ≡ old ++ entries_outlined false (entries_of es end)
entries_ended behind rest es end old out none bare so_far =
    sym (append-nil out) ∙ ap (λ e. out ++ entries_outlined behind (End e)) (sym bare) ∙ ap (λ r. out ++ entries_outlined behind (entries_of r end)) (sym none) ∙ so_far

-- all are written, and what stands behind the last comma
pub entries_closed : (behind : Bool) (rest es : List EntryOutline) (end : Option (List PartOutline)) (last : List PartOutline) (old out mid new : List ℕ) → rest ≡ [] → end ≡ Some last
    → mid ≡ out ++ comma_if behind → new ≡ mid ++ parts_outlined last
    → out ++ entries_outlined behind (entries_of rest end) ≡ old ++ entries_outlined false (entries_of es end) → new ≡ old ++ entries_outlined false (entries_of es end)
entries_closed behind rest es end last old out mid new none some comma here so_far =
    here ∙ ap (λ r. r ++ parts_outlined last) comma ∙ append_assoc out (comma_if behind) (parts_outlined last)
    ∙ ap (λ e. out ++ entries_outlined behind (End e)) (sym some) ∙ ap (λ r. out ++ entries_outlined behind (entries_of r end)) (sym none) ∙ so_far

-- an item, and those behind it
pub drop_got : {X : Type 0} (xs : List X) (i : ℕ) (x : X) → slice_get xs i ≡ Some x → drop i xs ≡ x ∷ drop (suc i) xs
drop_got [] i x is = cc
drop_got (y ∷ ys) zero x is = ap (λ z. z ∷ ys) (same_Some y x is)
drop_got (y ∷ ys) (suc i) x is = drop_got ys i x is

-- what is written of all of them is the text of their outline
pub entries_whole : (e : Entries) (all : List Entry) (old : List ℕ) → all ≡ items (out-Entries e).list
    → old ++ entries_outlined false (entries_of (map entry all) (option_map gap_read (out-Entries e).end)) ≡ old ++ entries_outlined false (entries e).entries
entries_whole e all old is =
    ap (λ es. old ++ entries_outlined false (entries_of (map entry es) (option_map gap_read (out-Entries e).end))) is
    ∙ ap (λ w. old ++ entries_outlined false w.entries) (sym (entries_is e))

-- ---- how many there are

short : (v : Vec Entry Global) → length v.items < 2 ^ 63
short v = let ok = v.ok.0 in let small = v.small in omega arith

pub few : (e : Entries) → length (items (out-Entries e).list) < 2 ^ 64
few e =
    let list = (out-Entries e).list in
    let all = length-append list.before.items (reverse list.behind.items) in
    let far = length-reverse list.behind.items in
    let one = short list.before in
    let two = short list.behind in
    omega (arith, all, far, one, two)
