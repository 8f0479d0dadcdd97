-- What a run of the program comes to.
use Rattle.std.specs.Prelude.{◌≡◌, ◌⊎◌, ℕ, List, [], map, None, Result, Ok, Err, Some, Vec}
use Rattle.std.specs.declared.alloc.Global.{Global}
use Rattle.toml_delivery.specs.Refusals.{refusal_line}
use Rattle.toml_delivery.specs.declared.ending.Ending.{Ending}
use Rattle.toml_delivery.specs.declared.ending.Ending.TheVariants.{Refused, NoMemory}
use Rattle.toml_delivery.specs.declared.outcome.Answer.{Answer}
use Rattle.toml_delivery.specs.declared.outcome.Outcome.{Outcome}
use Rattle.toml_delivery.specs.declared.refusal.Refusal.{Refusal}

abbrev pub texts_of : List (Vec ℕ Global) → List (List ℕ)
texts_of = map (λ (v : Vec ℕ Global). v.items)

-- status 0, the text on standard output, and the bytes of each file to be written
pub record Gives (text : List ℕ) (written : List (List ℕ)) (o : Outcome) : Type 0 where
  pub status : o.status ≡ 0
  pub refusal : o.refusal ≡ None
  pub out : o.out.items ≡ text
  pub err : o.err.items ≡ []
  pub files : texts_of o.files.items ≡ written

-- status 0, the text on standard output, and no file
abbrev pub Prints : List ℕ → Outcome → Type 0
Prints text = Gives text []

-- status 1, and one refusal line on standard error
pub record Tells (r : Refusal) (o : Outcome) : Type 0 where
  pub status : o.status ≡ 1
  pub refusal : o.refusal ≡ Some r
  pub out : o.out.items ≡ []
  pub err : o.err.items ≡ refusal_line r
  pub files : o.files.items ≡ []

-- status 5, and the refusal line of a place at which nothing stands
pub record IsMissing (o : Outcome) : Type 0 where
  pub status : o.status ≡ 5
  pub refusal : o.refusal ≡ Some (record { code = 301; place = 0 })
  pub out : o.out.items ≡ []
  pub err : o.err.items ≡ refusal_line (record { code = 301; place = 0 })
  pub files : o.files.items ≡ []

-- what a command's answer comes to: its text is printed and its files are written, its refusal told
abbrev pub Answers : Result Answer Ending → Outcome → Type 0
Answers (Ok answer) o = Gives answer.out.items (texts_of answer.files.items) o
Answers (Err (Refused r)) o = Tells r o
Answers (Err NoMemory) o = ⊥

-- so too where it is a text alone
abbrev pub ComesTo : Result (Vec ℕ Global) Ending → Outcome → Type 0
ComesTo (Ok text) o = Prints text.items o
ComesTo (Err (Refused r)) o = Tells r o
ComesTo (Err NoMemory) o = ⊥

-- it ends with such a refusal; want of memory says nothing
abbrev pub Ends : (Refusal → Type 0) → Ending → Type 0
Ends P (Refused r) = P r
Ends P NoMemory = Unit {0}

-- an answer with a text and files that are good
abbrev pub IsGood : (List ℕ → List (List ℕ) → Type 0) → Answer → Type 0
IsGood Good a = Good a.out.items (texts_of a.files.items)

-- the status with the text on standard error, and nothing else
pub record Fails (status : ℕ) (text : List ℕ) (o : Outcome) : Type 0 where
  pub is : o.status ≡ status
  pub refusal : o.refusal ≡ None
  pub out : o.out.items ≡ []
  pub err : o.err.items ≡ text
  pub files : o.files.items ≡ []
