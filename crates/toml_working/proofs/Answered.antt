-- What holds of an answer, if there is one.
use Rattle.std.specs.Prelude.{Result, Ok, Err, IfOk, OnOk}

-- what holds wherever there is one
pub on_ok_always : {X E : Type 0} (P : Type 0) (r : Result X E) → P → OnOk r P
on_ok_always P (Ok x) h = h
on_ok_always P (Err e) h = tt

pub if_ok_always : {X E : Type 0} (P : X → Type 0) (r : Result X E) → ((x : X) → P x) → IfOk r P
if_ok_always P (Ok x) h = h x
if_ok_always P (Err e) h = tt

-- what follows of three things that are said of it
pub if_ok_three : {X E : Type 0} (P Q R S : X → Type 0) (r : Result X E) → ((x : X) → P x → Q x → R x → S x) → IfOk r P → IfOk r Q
    → IfOk r R → IfOk r S
if_ok_three P Q R S (Ok x) f p q h = f x p q h
if_ok_three P Q R S (Err e) f p q h = tt

-- of one that holds wherever there is one, and one that is said of it
pub if_ok_both_of : {X E : Type 0} (P : Type 0) (Q R : X → Type 0) (r : Result X E) → ((x : X) → P → Q x → R x) → OnOk r P → IfOk r Q → IfOk r R
if_ok_both_of P Q R (Ok x) f p q = f x p q
if_ok_both_of P Q R (Err e) f p q = tt
