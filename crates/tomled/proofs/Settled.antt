-- What a disk is asked before an outcome is printed, one thing behind the other.
use Rattle.std.proofs.Common.{◌≡◌, ◌⊎◌, ℕ, Bool, true, false, List, [], ◌∷◌, ◌++◌, Option, Some, None, Vec, Result, Ok, Err, inl, inr, refl, sym, ap, ◌∙◌, subst, append_assoc, append-nil}
use Rattle.std.specs.Prelude.{if◌then◌else◌}
use Rattle.std.specs.declared.alloc.Global.{Global}
use Rattle.std.specs.declared.io.Error.{Error}
use Rattle.toml_replace.specs.Calls.{Call, Adds, Made, compares}
use Rattle.toml_replace.specs.Replacement.{IsCutShort, IsRefusal, IsReplacement}
use Rattle.toml_replace.specs.Steps.{IsComparing}
use Rattle.toml_replace.specs.declared.fault.ReplaceFault.{ReplaceFault}
use Rattle.toml_words.specs.Request.{is_input}
use Rattle.toml_words.specs.declared.request.Destination.{Destination}
use Rattle.toml_words.specs.declared.request.Request.{Request}
use Rattle.tomled.specs.Finishing.{HasNamed, IsCertifySettled, IsCompared, IsEditSettled, IsFileFault, IsFirst, IsLeft, IsPlaced, IsReplaced, IsSettled, Path, all_compared, certificate_at, compared, judged_compared, path_or, words_compared}
use Rattle.toml_delivery.specs.declared.fault.RunFault.{RunFault}
use Rattle.toml_delivery.specs.declared.outcome.Outcome.{Outcome}

abbrev Calls : Type 0
Calls = List Call

none_added : (a : Option Calls) → Adds [] a a
none_added None = tt
none_added (Some all) = sym (append-nil all)

joined : (xs ys : Calls) (a b c : Option Calls) → Adds xs a b → Adds ys b c → Adds (xs ++ ys) a c
joined xs ys a b None p q = tt
joined xs ys a None (Some all) p q = absurd q
joined xs ys None (Some m) (Some all) p q = absurd p
joined xs ys (Some e) (Some m) (Some all) p q = q ∙ ap (λ l. l ++ ys) p ∙ append_assoc e xs ys

-- nothing is asked
pub nothing_asked : (P : Calls → Type 0) (a : Option Calls) → P [] → Made a a P
nothing_asked P a p = record { calls = []; added = none_added a; which = p }

-- what is known of the calls is more than this
pub so_asked : (P Q : Calls → Type 0) (a b : Option Calls) → Made a b P → ((xs : Calls) → P xs → Q xs) → Made a b Q
so_asked P Q a b p f = record { calls = p.calls; added = p.added; which = f p.calls p.which }

-- one thing is asked behind the other
both_asked : (P Q R : Calls → Type 0) (a b c : Option Calls) → Made a b P → Made b c Q → ((xs ys : Calls) → P xs → Q ys → R (xs ++ ys)) → Made a c R
both_asked P Q R a b c p q f = record { calls = p.calls ++ q.calls; added = joined p.calls q.calls a b c p.added q.added; which = f p.calls q.calls p.which q.which }

-- a plan goes well up to a call that fails
cut_before : (plan more calls : Calls) → IsCutShort plan calls → IsCutShort (plan ++ more) calls
cut_before plan more calls cut = record {
  done = cut.done;
  next = cut.next;
  left = cut.left ++ more;
  failed = cut.failed;
  order = ap (λ l. l ++ more) cut.order ∙ append_assoc cut.done (cut.next ∷ cut.left) more;
  asked = cut.asked;
  stopped = cut.stopped;
  are = cut.are;
}

cut_behind : (front plan calls : Calls) → IsCutShort plan calls → IsCutShort (front ++ plan) (front ++ calls)
cut_behind front plan calls cut = record {
  done = front ++ cut.done;
  next = cut.next;
  left = cut.left;
  failed = cut.failed;
  order = ap (λ l. front ++ l) cut.order ∙ sym (append_assoc front cut.done (cut.next ∷ cut.left));
  asked = cut.asked;
  stopped = cut.stopped;
  are = ap (λ l. front ++ l) cut.are ∙ sym (append_assoc front cut.done (cut.failed ∷ []));
}

-- a plan is asked, or its front fails; then more is asked
pub front_refused : (plan more : Calls) (e : Error) (a b : Option Calls) → Made a b (IsCompared plan (Err e)) → Made a b (IsCompared (plan ++ more) (Err e))
front_refused plan more e a b asked = so_asked (IsCutShort plan) (IsCutShort (plan ++ more)) a b asked (cut_before plan more)

pub rest_asked : (plan more : Calls) (r : Result (Unit {0}) Error) (a b c : Option Calls) → Made a b (IsCompared plan (Ok tt)) → Made b c (IsCompared more r)
    → Made a c (IsCompared (plan ++ more) r)
rest_asked plan more (Ok u) a b c first second =
    both_asked (λ xs. xs ≡ plan) (λ ys. ys ≡ more) (λ zs. zs ≡ plan ++ more) a b c first second (λ xs ys p q. ap (λ l. l ++ ys) p ∙ ap (λ l. plan ++ l) q)
rest_asked plan more (Err e) a b c first second =
    both_asked (λ xs. xs ≡ plan) (IsCutShort more) (IsCutShort (plan ++ more)) a b c first second
    (λ xs ys p q. subst (λ l. IsCutShort (plan ++ more) (l ++ ys)) (sym p) (cut_behind plan more ys q))

refusal : (same : Result Bool Error) (e : Error) → (same ≡ Err e) ⊎ (same ≡ Ok true) → IsRefusal same
refusal same e (inl is) = subst IsRefusal (sym is) tt
refusal same e (inr is) = subst IsRefusal (sym is) tt

-- one word
module _ (path word : List ℕ) where
  pub input_passed : is_input word ≡ true → (a : Option Calls) → Made a a (IsCompared (compared path word) (Ok tt))
  input_passed is a = nothing_asked (λ calls. calls ≡ compared path word) a (sym (ap (λ b. if b then [] else compares path word (Ok false) ∷ []) is))

  module _ (is : is_input word ≡ false) where
    plan_is : compared path word ≡ compares path word (Ok false) ∷ []
    plan_is = ap (λ b. if b then [] else compares path word (Ok false) ∷ []) is

    pub file_passed : (r : Result (Unit {0}) Error) (a b : Option Calls) → Made a b (IsComparing path word r) → Made a b (IsCompared (compared path word) r)
    file_passed (Ok u) a b asked =
        so_asked (IsComparing path word (Ok u)) (IsCompared (compared path word) (Ok u)) a b asked (λ xs h. h.0 ∙ sym plan_is)
    file_passed (Err e) a b asked =
        so_asked (IsComparing path word (Err e)) (IsCompared (compared path word) (Err e)) a b asked
        (λ xs h. record {
          done = [];
          next = compares path word (Ok false);
          left = [];
          failed = compares path word h.0;
          order = plan_is;
          asked = (refl, refl);
          stopped = refusal h.0 e h.2;
          are = h.1;
        })

-- both words
module _ (path file : List ℕ) where
  first_cut : (list : Option Path) (xs : Calls) → IsCutShort (compared path file) xs → IsCutShort (words_compared path file list) xs
  first_cut None xs cut = cut
  first_cut (Some list) xs cut = cut_before (compared path file) (compared path list.now) xs cut

  pub first_refused : (list : Option Path) (e : Error) (a b : Option Calls) → Made a b (IsCompared (compared path file) (Err e))
      → Made a b (IsCompared (words_compared path file list) (Err e))
  first_refused list e a b asked = so_asked (IsCutShort (compared path file)) (IsCutShort (words_compared path file list)) a b asked (first_cut list)

  second_asked : (list : Path) (r : Result (Unit {0}) Error) (a b c : Option Calls) → Made a b (IsCompared (compared path file) (Ok tt))
      → Made b c (IsCompared (compared path list.now) r) → Made a c (IsCompared (words_compared path file (Some list)) r)
  second_asked list = rest_asked (compared path file) (compared path list.now)

  pub second_given : (given : Option Path) (list : Path) → given ≡ Some list → (r : Result (Unit {0}) Error) (a b c : Option Calls)
      → Made a b (IsCompared (compared path file) (Ok tt)) → Made b c (IsCompared (compared path list.now) r)
      → Made a c (IsCompared (words_compared path file given) r)
  second_given given list is r a b c first second =
      subst (λ l. Made a c (IsCompared (words_compared path file l) r)) (sym is) (second_asked list r a b c first second)

-- what is left of an outcome
module _ (file : List ℕ) (list : Option Path) (d : Destination) (inputs : List (Vec ℕ Global)) (old : Outcome) where
  pub is_refused : old.status ≡ 0 → (e : Error) (r : Result Outcome RunFault) → IsFileFault true (path_or d.certificate file) r → (a b : Option Calls)
      → Made a b (IsCompared (all_compared d.certificate file list) (Err e)) → Made a b (IsEditSettled file list d inputs old r)
  is_refused good e r fault a b asked =
      so_asked (IsCutShort (all_compared d.certificate file list)) (IsEditSettled file list d inputs old r) a b asked (λ xs cut. inr (inl (good, cut, fault)))

  pub is_placed : old.status ≡ 0 → (r : Result Outcome RunFault) (a b c : Option Calls)
      → Made a b (IsCompared (all_compared d.certificate file list) (Ok tt)) → Made b c (IsPlaced file d inputs old r)
      → Made a c (IsEditSettled file list d inputs old r)
  is_placed good r a b c asked placed =
      both_asked (λ xs. xs ≡ all_compared d.certificate file list) (IsPlaced file d inputs old r) (IsEditSettled file list d inputs old r) a b c asked placed
      (λ xs ys p q. inr (inr (good, ys, ap (λ l. l ++ ys) p, q)))

  pub is_replaced : d.in_place ≡ true → ¬ IsFirst inputs old.out.items → (r : Result Outcome RunFault) (a b : Option Calls)
      → Made a b (IsReplaced file d.certificate old r) → Made a b (IsPlaced file d inputs old r)
  is_replaced there other r a b asked =
      so_asked (IsReplaced file d.certificate old r) (IsPlaced file d inputs old r) a b asked (λ xs h. inr (inr (there, other, h)))

-- what is left of an outcome of `certify`
module _ (before edits after : List ℕ) (given : Option Path) (path : Path) (is : given ≡ Some path) (old : Outcome) where
  at_path : (r : Result Outcome RunFault) (xs : Calls) → IsCertifySettled before edits after (Some path) old r xs → IsCertifySettled before edits after given old r xs
  at_path r xs h = subst (λ p. IsCertifySettled before edits after p old r xs) (sym is) h

  pub not_certified : old.status ≡ 0 → (e : Error) (r : Result Outcome RunFault) → IsFileFault true path.now r → (a b : Option Calls)
      → Made a b (IsCompared (judged_compared path.now before edits after) (Err e)) → Made a b (IsCertifySettled before edits after given old r)
  not_certified good e r fault a b asked =
      so_asked (IsCutShort (judged_compared path.now before edits after)) (IsCertifySettled before edits after given old r) a b asked
      (λ xs cut. at_path r xs (inr (inl (good, cut, fault))))

  pub is_certified : old.status ≡ 0 → (a b : Option Calls) → Made a b (IsCompared (judged_compared path.now before edits after) (Ok tt))
      → Made a b (IsCertifySettled before edits after given old (Ok old))
  is_certified good a b asked =
      so_asked (λ xs. xs ≡ judged_compared path.now before edits after) (IsCertifySettled before edits after given old (Ok old)) a b asked
      (λ xs h. at_path (Ok old) xs (inr (inr (good, h, refl))))

pub without_path : (before edits after : List ℕ) (given : Option Path) → given ≡ None → (old new : Outcome) → HasNamed None old new → (a : Option Calls)
    → Made a a (IsCertifySettled before edits after given old (Ok new))
without_path before edits after given is old new h a =
    nothing_asked (IsCertifySettled before edits after given old (Ok new)) a (subst (λ p. IsCertifySettled before edits after p old (Ok new) []) (sym is) (refl, new, refl, h))

-- a replacement
pub was_replaced : (file : List ℕ) (path : Option Path) (old : Outcome) (text : List ℕ) (pair : Option (List ℕ × List ℕ)) → text ≡ old.out.items → pair ≡ certificate_at path old.files.items
    → (done : Result (Unit {0}) ReplaceFault) (r : Result Outcome RunFault) → IsLeft file path old done r → (a b : Option Calls)
    → Made a b (IsReplacement file text pair done) → Made a b (IsReplaced file path old r)
was_replaced file path old text pair text_is pair_is done r left a b asked =
    so_asked (IsReplacement file text pair done) (IsReplaced file path old r) a b asked
    (λ xs h. (
      done,
      subst (λ p. IsReplacement file old.out.items p done xs) pair_is (subst (λ t. IsReplacement file t pair done xs) text_is h),
      left,
    ))

-- by the request
module _ (request other : Request) (is : request ≡ other) (inputs : List (Vec ℕ Global)) (old : Outcome) where
  pub by_request : (r : Result Outcome RunFault) (a b : Option Calls) → Made a b (IsSettled other inputs old r) → Made a b (IsSettled request inputs old r)
  by_request r a b made = subst (λ q. Made a b (IsSettled q inputs old r)) (sym is) made
