-- Calls made one behind the other.
use Rattle.std.proofs.Common.{List, [], ◌∷◌, ◌++◌, Some, None, inl, inr, sym, ap, ◌∙◌, append_assoc, append-nil}
use Rattle.std.specs.Prelude.{Option}
use Rattle.std.specs.List.{AllByRecursion}
use Rattle.toml_replace.specs.Calls.{Call, Adds, SomeCall}

pub none_added : (a : Option (List Call)) → Adds [] a a
none_added None = tt
none_added (Some all) = sym (append-nil all)

pub joined : (xs ys : List Call) (a b c : Option (List Call)) → Adds xs a b → Adds ys b c → Adds (xs ++ ys) a c
joined xs ys a b None p q = tt
joined xs ys a None (Some all) p q = absurd q
joined xs ys None (Some m) (Some all) p q = absurd p
joined xs ys (Some e) (Some m) (Some all) p q = q ∙ ap (λ l. l ++ ys) p ∙ append_assoc e xs ys

pub all_joined : (P : Call → Type 0) (xs ys : List Call) → AllByRecursion P xs → AllByRecursion P ys → AllByRecursion P (xs ++ ys)
all_joined P [] ys p q = q
all_joined P (x ∷ xs) ys p q = (p.0, all_joined P xs ys p.1 q)

pub all_mapped : (P Q : Call → Type 0) → ((x : Call) → P x → Q x) → (xs : List Call) → AllByRecursion P xs → AllByRecursion Q xs
all_mapped P Q f [] p = tt
all_mapped P Q f (x ∷ xs) p = (f x p.0, all_mapped P Q f xs p.1)

-- a call of the later ones is one of all
pub some_behind : (P : Call → Type 0) (xs ys : List Call) → SomeCall P ys → SomeCall P (xs ++ ys)
some_behind P [] ys p = p
some_behind P (x ∷ xs) ys p = inr (some_behind P xs ys p)

pub some_before : (P : Call → Type 0) (xs ys : List Call) → SomeCall P xs → SomeCall P (xs ++ ys)
some_before P [] ys p = absurd p
some_before P (x ∷ xs) ys (inl here) = inl here
some_before P (x ∷ xs) ys (inr later) = inr (some_before P xs ys later)
