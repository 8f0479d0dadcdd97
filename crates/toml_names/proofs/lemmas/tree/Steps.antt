-- Steps of the tree of names, one after the other.
use Rattle.toml_names.proofs.Common.{Option, MatchOption, true, false, ◌≡◌, ℕ, ◌+◌, ◌≤◌, Result, Err, refl, arith, rules, Address, GoesOn, Steps}
use Rattle.toml_names.specs.declared.tree.name_tree.EnterFault.{EnterFault}
use Rattle.toml_names.specs.declared.tree.name_tree.NameTree.{NameTree as Tree}

pub GoesOn-same : (t : Tree) → GoesOn 0 t t
GoesOn-same t = record { can_undo = refl; lookups = record { most = omega arith; least = omega arith } }

pub GoesOn-within : {m : ℕ} {a b : Tree} → GoesOn m a b → (k : ℕ) → m ≤ k → GoesOn k a b
GoesOn-within goes k few = search rules

pub GoesOn-then : {m n : ℕ} {a b c : Tree} → GoesOn m a b → GoesOn n b c → (k : ℕ) → m + n ≤ k → GoesOn k a c
GoesOn-then first then k few = search rules

-- a step is refused after others, and `?` hands its fault on
pub refuses : {A B : Type 0} {m n k : ℕ} {old mid new : Tree} {e : EnterFault} {Makes : A → Type 0} {Refuses : Address → Type 0}
    {r : Result B EnterFault} {All : B → Type 0} {Bars : Address → Type 0}
    → GoesOn m old mid → Steps n mid new (Err e) Makes Refuses → (f : EnterFault) × (r ≡ Err f) × (f ≡ e) → m + n ≤ k → ((a : Address) → Refuses a → Bars a)
    → Steps k old new r All Bars
refuses h1 h2 h3 h4 h5 = search rules

-- the last step's answer is that of all
pub follows : {A : Type 0} {m n k : ℕ} {old mid new : Tree} {r : Result A EnterFault} {Makes All : A → Type 0} {Refuses Bars : Address → Type 0}
    → GoesOn m old mid → Steps n mid new r Makes Refuses → m + n ≤ k → ((x : A) → Makes x → All x) → ((a : Address) → Refuses a → Bars a)
    → Steps k old new r All Bars
follows h1 h2 h3 h4 h5 = search rules

-- where new names are wanted too, something is found
pub found_by : {A : Type 0} (N M : Type 0) (S T : A → Type 0) → ((x : A) → S x → T x) → (r : Option A) → MatchOption r ((false ≡ true) × N) S → MatchOption r M T
found_by N M S T more r none = search rules

pub surely : {A : Type 0} (N : Type 0) (S : A → Type 0) (r : Option A) → MatchOption r ((false ≡ true) × N) S → (x : A) × S x
surely N S r none = search rules

-- some of the key parts of a whole were looked up, and the others are left
pub record GoesOnTo (left whole : ℕ) (old new : Tree) : Type 0 where
  pub done : ℕ
  pub is : done + left ≡ whole
  pub goes_on : GoesOn done old new

pub GoesOnTo-begin : (t : Tree) (left whole : ℕ) → left ≡ whole → GoesOnTo left whole t t
GoesOnTo-begin t left whole is = record { done = 0; is = omega (arith, is); goes_on = GoesOn-same t }

pub GoesOnTo-within : {old new : Tree} {left whole : ℕ} → GoesOnTo left whole old new → GoesOn whole old new
GoesOnTo-within {whole = whole} before = GoesOn-within before.goes_on whole (let all = before.is in omega (arith, all))

pub GoesOnTo-more : {old now next : Tree} {left whole n rest : ℕ} → GoesOnTo left whole old now → left ≡ n + rest → GoesOn n now next → GoesOnTo rest whole old next
GoesOnTo-more {n = n} before is then = record {
  done = before.done + n;
  is = let all = before.is in omega (arith, all, is);
  goes_on = GoesOn-then before.goes_on then (before.done + n) (omega arith);
}
