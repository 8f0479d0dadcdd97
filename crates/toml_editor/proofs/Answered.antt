-- What holds of an answer, if there is one.
use Rattle.std.specs.Prelude.{Result, Ok, Err, IfOk, OnOk}

-- beside what is said of it
pub if_ok_with : {X E : Type 0} (P : Type 0) (Q : X → Type 0) (r : Result X E) → OnOk r P → IfOk r Q → IfOk r (λ x. P × Q x)
if_ok_with P Q (Ok x) p q = (p, q)
if_ok_with P Q (Err e) p q = tt

pub if_ok_both : {X E : Type 0} (P Q : X → Type 0) (r : Result X E) → IfOk r P → IfOk r Q → IfOk r (λ x. P x × Q x)
if_ok_both P Q (Ok x) p q = (p, q)
if_ok_both P Q (Err e) p q = tt

pub on_ok_two : {X E : Type 0} (P Q R : Type 0) (r : Result X E) → (P → Q → R) → OnOk r P → OnOk r Q → OnOk r R
on_ok_two P Q R (Ok x) f p q = f p q
on_ok_two P Q R (Err e) f p q = tt

-- what follows of two things that are said of it
pub if_ok_two : {X E : Type 0} (P Q R : X → Type 0) (r : Result X E) → ((x : X) → P x → Q x → R x) → IfOk r P → IfOk r Q → IfOk r R
if_ok_two P Q R (Ok x) f p q = f x p q
if_ok_two P Q R (Err e) f p q = tt
