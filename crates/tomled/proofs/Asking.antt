-- What is asked, one thing behind the other.
use Rattle.std.proofs.Common.{List, [], ◌∷◌, ◌++◌, Option, Some, None, sym, ap, ◌∙◌, append_assoc, append-nil}
use Rattle.tomled.specs.Asking.{Adds, Asked}

module _ {A : Type 0} where
  none_added : (a : Option (List A)) → Adds [] a a
  none_added None = tt
  none_added (Some all) = sym (append-nil all)

  joined : (xs ys : List A) (a b c : Option (List A)) → Adds xs a b → Adds ys b c → Adds (xs ++ ys) a c
  joined xs ys a b None p q = tt
  joined xs ys a None (Some all) p q = absurd q
  joined xs ys None (Some m) (Some all) p q = absurd p
  joined xs ys (Some e) (Some m) (Some all) p q = q ∙ ap (λ l. l ++ ys) p ∙ append_assoc e xs ys

  -- nothing is asked
  pub nothing : (P : List A → Type 0) (a : Option (List A)) → P [] → Asked a a P
  nothing P a p = record { new = []; added = none_added a; which = p }

  -- one thing is
  pub one : (P : List A → Type 0) (x : A) (a b : Option (List A)) → Adds (x ∷ []) a b → P (x ∷ []) → Asked a b P
  one P x a b added p = record { new = x ∷ []; added = added; which = p }

  -- what is known is more than this
  pub so : (P Q : List A → Type 0) (a b : Option (List A)) → Asked a b P → ((xs : List A) → P xs → Q xs) → Asked a b Q
  so P Q a b p f = record { new = p.new; added = p.added; which = f p.new p.which }

  -- one thing more
  pub one_more : (P Q : List A → Type 0) (x : A) (a b c : Option (List A)) → Asked a b P → Adds (x ∷ []) b c → ((xs : List A) → P xs → Q (xs ++ x ∷ [])) → Asked a c Q
  one_more P Q x a b c p added f = record { new = p.new ++ x ∷ []; added = joined p.new (x ∷ []) a b c p.added added; which = f p.new p.which }

  -- some things more
  pub more : (P Q R : List A → Type 0) (a b c : Option (List A)) → Asked a b P → Asked b c Q → ((xs ys : List A) → P xs → Q ys → R (xs ++ ys)) → Asked a c R
  more P Q R a b c p q f = record { new = p.new ++ q.new; added = joined p.new q.new a b c p.added q.added; which = f p.new q.new p.which q.which }
