-- What the words of the command line ask, by clap's reading of the definition `tool`.
use Rattle.std.specs.Prelude.{◌≡◌, Bool, List, [], codes, true, false, if◌then◌else◌, ◌&&◌, ◌||◌, Option, Some, None, count_by, nat_lt}
use Rattle.std.specs.Prelude.{option_map, option_and_then}
use Rattle.std.specs.Str.{bytes_eq}
use Rattle.clap.specs.Walk.{texts}
use Rattle.clap.specs.Words.{Row, Text, all_of, fault_of, first_of, kind_of, subcommand_of, takes, HasKind}
use Rattle.clap.specs.declared.error.Error.{Error}
use Rattle.clap.specs.declared.error.kind.ErrorKind.TheVariants.{OutOfMemory}
use Rattle.toml_tree.specs.declared.profile.Profile.{Profile}
use Rattle.toml_tree.specs.declared.profile.Profile.TheVariants.{One, Two}
use Rattle.toml_words.specs.CommandLine.{AreLayouts, AreProfiles, Choices, tool}
use Rattle.toml_words.specs.Marking.{is_marked, unmarked}
use Rattle.toml_words.specs.declared.request.Destination.{Destination}
use Rattle.toml_words.specs.declared.request.Form.{Form}
use Rattle.toml_words.specs.declared.request.Form.TheVariants.{Plain, Json, Tagged, Toml, TypeName}
use Rattle.toml_words.specs.declared.request.Layout.{Layout}
use Rattle.toml_words.specs.declared.request.Layout.TheVariants as laid
use Rattle.toml_words.specs.declared.request.NewValue.{NewValue}
use Rattle.toml_words.specs.declared.request.OneEdit.{OneEdit}
use Rattle.toml_words.specs.declared.request.OneEdit.TheVariants as edits
use Rattle.toml_words.specs.declared.request.Request.{Request}
use Rattle.toml_words.specs.declared.request.Request.TheVariants as requests
use Rattle.toml_words.specs.declared.asking.WordsFault.{WordsFault}
use Rattle.toml_words.specs.declared.asking.WordsFault.TheVariants.{Parser, Nothing, NoMemory}

-- a value: its text, and whether that is a string's
pub record AskedValue : Type 0 where
  pub text : Text
  pub is_string : Bool

-- an edit, with texts in place of references to them
pub data AskedEdit : Type 0 where
  set : (value : AskedValue) (parents : Bool) → AskedEdit
  insert : (value : AskedValue) (parents : Bool) → AskedEdit
  rename : (to : Text) → AskedEdit
  remove : AskedEdit

-- where an edited text goes
pub record AskedDestination : Type 0 where
  pub in_place : Bool
  pub certificate : Option Text

-- so a request
pub data Asked : Type 0 where
  show : (file : Text) (list explain : Bool) (profile : Profile) → Asked
  check : (file : Text) (explain : Bool) (profile : Profile) → Asked
  edit : (file edits out cert : Text) (explain : Bool) (profile : Profile) → Asked
  verify : (before edits after cert : Text) (explain : Bool) (profile : Profile) → Asked
  certify : (before edits after : Text) (cert : Option Text) (profile : Profile) → Asked
  get : (file place : Text) (form : Form) (default : Option Text) (profile : Profile) → Asked
  edit_one : (file place : Text) (edit : AskedEdit) (destination : AskedDestination) (layout : Layout) (profile : Profile) → Asked
  apply : (file edits : Text) (destination : AskedDestination) (layout : Layout) (profile : Profile) → Asked
  validate : (files : List Text) (profile : Profile) → Asked

abbrev pub asked_value : NewValue → AskedValue
asked_value v = record { text = v.text.now; is_string = v.is_string }

abbrev pub asked_edit : OneEdit → AskedEdit
asked_edit (edits.Set value parents) = set (asked_value value) parents
asked_edit (edits.Insert value parents) = insert (asked_value value) parents
asked_edit (edits.Rename to) = rename to.now
asked_edit edits.Remove = remove

abbrev pub asked_destination : Destination → AskedDestination
asked_destination d = record { in_place = d.in_place; certificate = option_map (λ path. path.now) d.certificate }

-- what a request asks
abbrev pub asked_by : Request → Asked
asked_by (requests.Show file list explain profile) = show file.now list explain profile
asked_by (requests.Check file explain profile) = check file.now explain profile
asked_by (requests.Edit file edits out cert explain profile) = edit file.now edits.now out.now cert.now explain profile
asked_by (requests.Verify before edits after cert explain profile) = verify before.now edits.now after.now cert.now explain profile
asked_by (requests.Certify before edits after cert profile) = certify before.now edits.now after.now (option_map (λ path. path.now) cert) profile
asked_by (requests.Get file place form default profile) = get file.now place.now form (option_map (λ text. text.now) default) profile
asked_by (requests.One file place e destination layout profile) = edit_one file.now place.now (asked_edit e) (asked_destination destination) layout profile
asked_by (requests.Apply file edits destination layout profile) = apply file.now edits.now (asked_destination destination) layout profile
asked_by (requests.Validate files profile) = validate (texts files.items) profile

-- the flag's first value is the text `true`
abbrev pub is_true : Option Text → Bool
is_true None = false
is_true (Some text) = bytes_eq text (codes "true")

abbrev pub is_given : Text → List Row → Bool
is_given flag rows = is_true (first_of flag rows)

-- the profile that the text of its number names
abbrev pub profile_named : Text → Option Profile
profile_named text = if bytes_eq text (codes "1") then Some One else if bytes_eq text (codes "2") then Some Two else None

-- that of the option's first value
abbrev pub profile_of : List Row → Option Profile
profile_of rows = option_and_then profile_named (first_of (codes "profile") rows)

-- the layout of this name
abbrev pub layout_named : Text → Option Layout
layout_named text = if bytes_eq text (codes "plain") then Some laid.Plain else if bytes_eq text (codes "follow") then Some laid.Follow else None

-- that of the option's first value
abbrev pub layout_of : List Row → Option Layout
layout_of rows = option_and_then layout_named (first_of (codes "layout") rows)

-- the first value, where it is not marked
abbrev pub unless_marked : Text → Option Text
unless_marked text = if is_marked text then None else Some text

abbrev pub word_of : Text → List Row → Option Text
word_of argument rows = option_and_then unless_marked (first_of argument rows)

-- the first value, without its mark
abbrev pub value_of : Text → List Row → Option Text
value_of argument rows = option_map unmarked (first_of argument rows)

-- a path is standard input
abbrev pub is_input : Text → Bool
is_input path = bytes_eq path (codes "-")

-- both are
abbrev pub are_both_input : Text → Text → Bool
are_both_input one other = is_input one && is_input other

-- so are two of three
abbrev pub is_input_twice : Text → Text → Text → Bool
is_input_twice one two three = are_both_input one two || (are_both_input one three || are_both_input two three)

-- what `show` asks with these values: each path is the first value of its argument
abbrev pub show_of : List Row → Option Asked
show_of rows =
    option_and_then (λ file. option_map (show file (is_given (codes "list") rows) (is_given (codes "explain") rows)) (profile_of rows)) (first_of (codes "FILE") rows)

-- what `check` asks with these values
abbrev pub check_of : List Row → Option Asked
check_of rows = option_and_then (λ file. option_map (check file (is_given (codes "explain") rows)) (profile_of rows)) (first_of (codes "FILE") rows)

-- what `edit` asks with these values
abbrev pub edit_of : List Row → Option Asked
edit_of rows =
    option_and_then (λ file. option_and_then (λ edits. option_and_then (λ out. option_and_then (λ cert. option_map (edit file edits out cert (is_given (codes "explain") rows)) (profile_of rows))
    (first_of (codes "CERT") rows)) (first_of (codes "OUT") rows)) (first_of (codes "EDITS") rows)) (first_of (codes "FILE") rows)

-- what `verify` asks with these values
abbrev pub verify_of : List Row → Option Asked
verify_of rows =
    option_and_then (λ before. option_and_then (λ edits. option_and_then (λ after. option_and_then (λ cert. option_map (verify before edits after cert (is_given (codes "explain") rows)) (profile_of rows))
    (first_of (codes "CERT") rows)) (first_of (codes "AFTER") rows)) (first_of (codes "EDITS") rows)) (first_of (codes "BEFORE") rows)

-- what these three and the other values ask: nothing where two of them are standard input
abbrev pub certify_with : List Row → Text → Text → Text → Option Asked
certify_with rows before edits after = option_and_then (λ profile. if is_input_twice before edits after then None else Some (certify before edits after (first_of (codes "CERT") rows) profile)) (profile_of rows)

-- what `certify` asks with these values
abbrev pub certify_of : List Row → Option Asked
certify_of rows =
    option_and_then (λ before. option_and_then (λ edits. option_and_then (certify_with rows before edits) (first_of (codes "AFTER") rows)) (first_of (codes "EDITS") rows)) (first_of (codes "BEFORE") rows)

-- the form that these flags choose: `json`, `tagged`, `toml`, `type`, of which two exclude each other
abbrev pub chosen : Bool → Bool → Bool → Bool → Option Form
chosen false false false false = Some Plain
chosen true false false false = Some Json
chosen false true false false = Some Tagged
chosen false false true false = Some Toml
chosen false false false true = Some TypeName
chosen _ _ _ _ = None

abbrev pub form_of : List Row → Option Form
form_of rows = chosen (is_given (codes "json") rows) (is_given (codes "tagged") rows) (is_given (codes "toml") rows) (is_given (codes "type") rows)

-- what `get` asks with these values
abbrev pub get_of : List Row → Option Asked
get_of rows =
    option_and_then (λ file. option_and_then (λ place. option_and_then (λ form. option_map (get file place form (value_of (codes "default") rows)) (profile_of rows)) (form_of rows))
    (word_of (codes "PLACE") rows)) (word_of (codes "FILE") rows)

-- the path of the certificate, if one is given; nothing is asked where it is marked
abbrev pub certificate_with : Option Text → Option (Option Text)
certificate_with None = Some None
certificate_with (Some path) = if is_marked path then None else Some (Some path)

abbrev pub certificate_of : List Row → Option (Option Text)
certificate_of rows = certificate_with (first_of (codes "certificate") rows)

-- where the edited text goes; standard input can't be changed in place
abbrev pub destination_of : Text → List Row → Option AskedDestination
destination_of file rows =
    if is_given (codes "in-place") rows && is_input file then None
    else option_map (λ path. record { in_place = is_given (codes "in-place") rows; certificate = path }) (certificate_of rows)

-- what one edit asks with these values
abbrev pub one_of : AskedEdit → List Row → Option Asked
one_of e rows =
    option_and_then (λ file. option_and_then (λ place. option_and_then (λ destination. option_and_then (λ layout. option_map (edit_one file place e destination layout) (profile_of rows))
    (layout_of rows)) (destination_of file rows)) (word_of (codes "PLACE") rows)) (word_of (codes "FILE") rows)

abbrev pub new_value_of : List Row → Option AskedValue
new_value_of rows = option_map (λ text. record { text = text; is_string = is_given (codes "string") rows }) (value_of (codes "VALUE") rows)

-- what `set`, `insert`, `rename` and `remove` ask with these values
abbrev pub set_of : List Row → Option Asked
set_of rows = option_and_then (λ value. one_of (set value (is_given (codes "parents") rows)) rows) (new_value_of rows)

abbrev pub insert_of : List Row → Option Asked
insert_of rows = option_and_then (λ value. one_of (insert value (is_given (codes "parents") rows)) rows) (new_value_of rows)

abbrev pub rename_of : List Row → Option Asked
rename_of rows = option_and_then (λ to. one_of (rename to) rows) (value_of (codes "NAME") rows)

abbrev pub remove_of : List Row → Option Asked
remove_of = one_of remove

-- what `apply` asks with these values
abbrev pub apply_with : List Row → Text → Text → Option Asked
apply_with rows file edits =
    option_and_then (λ destination. option_and_then (λ layout. option_and_then (λ profile. if are_both_input file edits then None else Some (apply file edits destination layout profile)) (profile_of rows))
    (layout_of rows)) (destination_of file rows)

abbrev pub apply_of : List Row → Option Asked
apply_of rows = option_and_then (λ file. option_and_then (apply_with rows file) (word_of (codes "EDITS") rows)) (word_of (codes "FILE") rows)

-- what `validate` asks with these values
abbrev pub validate_with : List Row → List Text → Option Asked
validate_with rows files = option_and_then (λ profile. if nat_lt 1 (count_by is_input files) then None else Some (validate files profile)) (profile_of rows)

abbrev pub validate_of : List Row → Option Asked
validate_of rows = option_and_then (validate_with rows) (all_of (codes "FILE") rows)

-- the subcommands that edit a file by their words
abbrev pub is_editing : Text → Bool
is_editing name = bytes_eq name (codes "set") || (bytes_eq name (codes "insert") || (bytes_eq name (codes "rename") || (bytes_eq name (codes "remove") || bytes_eq name (codes "apply"))))

-- what such a one asks by its name and its values
abbrev pub editing_of : Text → List Row → Option Asked
editing_of name rows =
    if bytes_eq name (codes "set") then set_of rows
    else if bytes_eq name (codes "insert") then insert_of rows
    else if bytes_eq name (codes "rename") then rename_of rows
    else if bytes_eq name (codes "remove") then remove_of rows
    else if bytes_eq name (codes "apply") then apply_of rows
    else None

-- what the others ask, but `validate`
abbrev pub reading_of : Text → List Row → Option Asked
reading_of name rows =
    if bytes_eq name (codes "get") then get_of rows
    else if bytes_eq name (codes "check") then check_of rows
    else if bytes_eq name (codes "show") then show_of rows
    else if bytes_eq name (codes "edit") then edit_of rows
    else if bytes_eq name (codes "verify") then verify_of rows
    else if bytes_eq name (codes "certify") then certify_of rows
    else None

-- what a subcommand asks by its name and its values, or nothing
abbrev pub asked_of : Text × List Row → Option Asked
asked_of met =
    if bytes_eq met.0 (codes "validate") then validate_of met.1
    else if is_editing met.0 then editing_of met.0 met.1
    else reading_of met.0 met.1

-- what the subcommand asks that the definition gives for the words
abbrev pub asked_in : Choices → Choices → List Text → Option Asked
asked_in profiles layouts words = option_and_then asked_of (subcommand_of (tool profiles layouts) words)

-- the definition finds no fault in the words, and they ask this request
pub record IsRequestIn (words : List Text) (request : Request) : Type 0 where
  pub profiles : Choices
  pub numbers : AreProfiles profiles
  pub layouts : Choices
  pub names : AreLayouts layouts
  pub faultless : fault_of (tool profiles layouts) words ≡ []
  pub asked : asked_in profiles layouts words ≡ Some (asked_by request)

-- the parser's error has a kind that the definition gives for the words, or is want of memory, and only that where it takes them
pub record IsRefusedBy (words : List Text) (error : Error) : Type 0 where
  pub profiles : Choices
  pub numbers : AreProfiles profiles
  pub layouts : Choices
  pub names : AreLayouts layouts
  pub kind : HasKind (fault_of (tool profiles layouts) words) error
  pub taken : takes (tool profiles layouts) words ≡ true → kind_of error ≡ OutOfMemory

-- the definition finds no fault in the words, and they ask nothing
pub record AsksNothing (words : List Text) : Type 0 where
  pub profiles : Choices
  pub numbers : AreProfiles profiles
  pub layouts : Choices
  pub names : AreLayouts layouts
  pub faultless : fault_of (tool profiles layouts) words ≡ []
  pub nothing : asked_in profiles layouts words ≡ None

abbrev pub IsFaultIn : List Text → WordsFault → Type 0
IsFaultIn words (Parser error) = IsRefusedBy words error
IsFaultIn words Nothing = AsksNothing words
IsFaultIn words NoMemory = Unit {0}
