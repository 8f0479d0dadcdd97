-- Values that begin with a hyphen. The parser would take them for options, so they are marked by U+0000 before it reads them, which
-- no word of a process has; what is read of them is unmarked.
use Rattle.std.specs.Prelude.{ℕ, suc, Bool, true, false, ◌==◌, ◌&&◌, ◌||◌, not, List, [], ◌∷◌, codes, nat_le, if◌then◌else◌}
use Rattle.std.specs.Str.{bytes_eq}

abbrev pub Word : Type 0
Word = List ℕ

-- the commands of which a value may begin with a hyphen
abbrev pub takes_hyphens : Word → Bool
takes_hyphens name = bytes_eq name (codes "get") || (bytes_eq name (codes "set") || (bytes_eq name (codes "insert") || bytes_eq name (codes "rename")))

-- it begins with a hyphen, and is more than that
abbrev pub begins_with_hyphen : Word → Bool
begins_with_hyphen (c ∷ d ∷ word) = c == 0x2D
begins_with_hyphen _ = false

-- the front of a word up to its first `=`
abbrev pub before_equals : Word → Word
before_equals [] = []
before_equals (c ∷ word) = if c == 0x3D then [] else c ∷ before_equals word

-- `-h` or `--help`, which each command takes, or `--profile`
abbrev pub is_common_option : Word → Bool
is_common_option name = bytes_eq name (codes "-h") || (bytes_eq name (codes "--help") || bytes_eq name (codes "--profile"))

-- what `get` takes beside these
abbrev pub is_form_option : Word → Bool
is_form_option name =
    bytes_eq name (codes "--json") || (bytes_eq name (codes "--tagged") || (bytes_eq name (codes "--toml") || (bytes_eq name (codes "--type") || bytes_eq name (codes "--default"))))

-- what the commands that edit take
abbrev pub is_edit_option : Word → Bool
is_edit_option name =
    bytes_eq name (codes "-i") || (bytes_eq name (codes "--in-place") || (bytes_eq name (codes "--certificate") || bytes_eq name (codes "--layout")))

-- what those with a value take beside these
abbrev pub is_value_option : Word → Bool
is_value_option name = bytes_eq name (codes "--string") || bytes_eq name (codes "--parents")

-- an option of the command, by the word before its first `=`
abbrev pub is_option_of : Word → Word → Bool
is_option_of command name =
    is_common_option name || (if bytes_eq command (codes "get") then is_form_option name
    else (is_edit_option name || (not (bytes_eq command (codes "rename")) && is_value_option name)))

-- where a value may stand: of `get` directly behind `--default`, else behind two words without a hyphen, FILE and PLACE
abbrev pub is_at_value : Word → ℕ → Bool → Bool
is_at_value command seen behind_default = if bytes_eq command (codes "get") then behind_default else nat_le 2 seen

-- a word that is a value, though it begins with a hyphen
abbrev pub is_hyphen_value : Word → ℕ → Bool → Word → Bool
is_hyphen_value command seen behind_default word =
    begins_with_hyphen word && (not (is_option_of command (before_equals word)) && is_at_value command seen behind_default)

abbrev pub marked : Bool → Word → Word
marked true word = 0 ∷ word
marked false word = word

-- one word more without a hyphen
abbrev pub seen_with : Word → ℕ → ℕ
seen_with word seen = if begins_with_hyphen word then seen else suc seen

-- words behind the command: so many before them have no hyphen, and they stand directly behind `--default` or not; behind `--` no word
-- is an option
abbrev pub marked_behind : Word → ℕ → Bool → List Word → List Word
marked_behind command seen behind_default [] = []
marked_behind command seen behind_default (word ∷ words) =
    if bytes_eq word (codes "--") then word ∷ words
    else marked (is_hyphen_value command seen behind_default word) word ∷ marked_behind command (seen_with word seen) (bytes_eq word (codes "--default")) words

-- the words of a process, its own name first
abbrev pub marked_words : List Word → List Word
marked_words (own ∷ command ∷ words) = if takes_hyphens command then own ∷ command ∷ marked_behind command 0 false words else own ∷ command ∷ words
marked_words words = words

abbrev pub is_marked : Word → Bool
is_marked (c ∷ word) = c == 0
is_marked [] = false

-- the word without its mark
abbrev pub unmarked : Word → Word
unmarked (c ∷ word) = if c == 0 then word else c ∷ word
unmarked [] = []
