-- What documents leave in the notes: the fields that have a text, the words that are too long, and
-- the keys that are known.
use Rattle.std.specs.Prelude.{◌≡◌, ◌+◌, ◌++◌, ◌∷◌, ◌||◌, ◌==◌, ℕ, zero, suc, Bool, false}
use Rattle.std.specs.Prelude.{Option, Some, None, codes, is_some, nat_lt, slice_get, slice_index_or}
use Rattle.std.specs.Prelude.{unwrap_or, bytes_eq, chars, filter, not, List, [], length, map}
use Rattle.std.specs.Prelude.{if◌then◌else◌}
use Rattle.serde_json.specs.Data.{Data, no_members}
use Rattle.serde_json.specs.Find.{as_object, as_str}
use Rattle.elasticlunr_lang.specs.Words.{words}
use Rattle.elasticlunr_text.specs.Text.{Bytes, is_listed}
use Rattle.elasticlunr_diagnostics.specs.Messages.{counted_text}
use Rattle.elasticlunr_job_format.specs.Objects.{Options}
use Rattle.elasticlunr_job_format.specs.Rules.{WordRules}
use Rattle.elasticlunr_input.specs.Fields.{pairs_of}
use Rattle.elasticlunr_input.specs.Settled.{Settings}
use Rattle.elasticlunr_input.specs.Warnings.{reference_warnings, unindexed_text}
use Rattle.elasticlunr_input.specs.declared.notes.Notes.{Notes}

-- the words of values are limited as before
abbrev pub HasSameLimits : (old new : Notes) → Type 0
HasSameLimits old new = (new.longest ≡ old.longest) × (new.is_stored ≡ old.is_stored)
    × (new.documents ≡ old.documents) × (new.tokens ≡ old.tokens)

-- and nothing more is known of the values of documents
abbrev pub HasSameWords : (old new : Notes) → Type 0
HasSameWords old new = (new.has_text ≡ old.has_text) × (new.longer ≡ old.longer)
    × HasSameLimits old new

-- nothing more was seen of documents
abbrev pub HasSameSeen : (old new : Notes) → Type 0
HasSameSeen old new = (new.references ≡ old.references) × (new.has_text ≡ old.has_text)
    × (new.longer ≡ old.longer) × (new.taken ≡ old.taken) × (new.documents ≡ old.documents)
    × (new.tokens ≡ old.tokens) × (new.warnings ≡ old.warnings)

-- how many characters a word may have under these rules, if there are some, and else as before
abbrev pub longest_under : Option WordRules → (before : Option ℕ) → Option ℕ
longest_under None before = before
longest_under (Some rules) before = rules.longest

-- for each of these fields whether the rules only store it, if there are some
abbrev pub stored_under : Option WordRules → List Bytes → List Bool
stored_under None fields = []
stored_under (Some rules) fields = map (λ field. is_listed field rules.stored) fields

-- no warning is due for a text under this key before the first document: the settings name the
-- fields, or it is the reference's key or a field
abbrev pub is_expected : Settings → Options → Bytes → Bool
is_expected settings options key = is_some settings.fields
    || is_listed key (options.reference_key ∷ options.fields)

-- the field of this number is only stored
abbrev pub is_only_stored : Notes → ℕ → Bool
is_only_stored notes number = unwrap_or (slice_get notes.is_stored.items number) false

-- one of these values, that of the field with this number, is a text that is not empty
abbrev pub has_value : List Bytes → ℕ → Bool
has_value values number = not (length (slice_index_or values number []) == 0)

-- for each field whether it has a text, where the value of this field is one, or is not
abbrev pub with_text : List Bool → (field : ℕ) → (is_text : Bool) → List Bool
with_text [] field is_text = is_text ∷ []
with_text (has_text ∷ others) zero is_text = (has_text || is_text) ∷ others
with_text (has_text ∷ others) (suc field) is_text = has_text ∷ with_text others field is_text

-- how many words of a text have more characters than a word may have
abbrev pub too_long : (longest : Option ℕ) → Bytes → ℕ
too_long None text = 0
too_long (Some longest) text = length (filter (λ word. nat_lt longest (length word))
    (words (chars text)))

-- how many of the value of one field, of which none are indexed where it is only stored
abbrev pub too_long_in : (longest : Option ℕ) → (is_stored : Bool) → Bytes → ℕ
too_long_in longest is_stored value = if is_stored then 0 else too_long longest value

-- and how many of these values, where it is known which fields, by their numbers from 0, are only
-- stored
abbrev pub all_too_long : (longest : Option ℕ) → (is_stored : ℕ → Bool) → List Bytes → ℕ
all_too_long longest is_stored [] = 0
all_too_long longest is_stored (value ∷ values) = too_long_in longest (is_stored 0) value
    + all_too_long longest (λ number. is_stored (suc number)) values

-- of the values of a document
abbrev pub too_long_of : Notes → List Bytes → ℕ
too_long_of notes values = all_too_long notes.longest (is_only_stored notes) values

-- the keys of the members of an object that are texts, in their order
abbrev pub texts_keys : Data → List Bytes
texts_keys d = map (λ m. m.0) (filter (λ m. is_some (as_str m.1))
    (pairs_of (unwrap_or (as_object d) no_members)))

-- of these keys those that are not known, in their order, each once
abbrev pub new_keys : (is_known : Bytes → Bool) → List Bytes → List Bytes
new_keys is_known [] = []
new_keys is_known (key ∷ keys) = if is_known key then new_keys is_known keys
    else key ∷ new_keys (λ other. is_known other || bytes_eq key other) keys

-- the warnings of a document of this number and this reference with texts under these keys: those
-- of its reference, and one for each key that is not known
abbrev pub document_warnings : (number : ℕ) (reference : Bytes) (before : Option ℕ)
    (is_known : Bytes → Bool) (keys : List Bytes) → List Bytes
document_warnings number reference before is_known keys = reference_warnings number reference before
    ++ map (unindexed_text number reference) (new_keys is_known keys)

-- the warning that so many words have more characters than a word may have
abbrev pub long_text : (count longest : ℕ) → Bytes
long_text count longest = counted_text count (codes "word") ++ (codes " of more than "
    ++ (counted_text longest (codes "character") ++ codes ": no search finds such a word"))

-- the warnings of the end of all words: none where no word is too long, or a word may have any
-- length
abbrev pub long_warnings : (longest : Option ℕ) (count : ℕ) → List Bytes
long_warnings None count = []
long_warnings (Some longest) count = if nat_lt 0 count then long_text count longest ∷ [] else []
