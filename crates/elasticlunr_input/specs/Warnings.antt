-- What is said of documents and fields that are fine, but suspicious.
use Rattle.std.specs.Prelude.{◌≡◌, ◌++◌, ◌∷◌, ◌==◌, ℕ, suc, Bool, true, false, List, [], map}
use Rattle.std.specs.Prelude.{codes}
use Rattle.std.specs.Prelude.{Option, Some, None, decimal, slice_get, unwrap_or, if◌then◌else◌}
use Rattle.std.specs.BTreeMap.{get_by_text}
use Rattle.std.specs.BTreeSet.{contains_text}
use Rattle.std.specs.List.{list_any}
use Rattle.std.specs.Option.{option_map_or}
use Rattle.std.specs.Str.{bytes_eq}
use Rattle.std.specs.List.Sorted.{IsPermutation}
use Rattle.elasticlunr_text.specs.Text.{Bytes, bytes_of, is_listed}
use Rattle.elasticlunr_trie.specs.Table.{Table}
use Rattle.elasticlunr_store.specs.Contents.{Contents}
use Rattle.elasticlunr.specs.History.{Commands}
use Rattle.elasticlunr.specs.Standing.{Plan, Holds}
use Rattle.elasticlunr_input.specs.Counts.{without_token}
use Rattle.elasticlunr_input.specs.declared.notes.Notes.{Notes}

-- the names of the properties that each object of JavaScript has
abbrev pub property_names : List Bytes
property_names = codes "__defineGetter__" ∷ codes "__defineSetter__" ∷ codes "__lookupGetter__"
    ∷ codes "__lookupSetter__" ∷ codes "__proto__" ∷ codes "constructor" ∷ codes "hasOwnProperty"
    ∷ codes "isPrototypeOf" ∷ codes "propertyIsEnumerable" ∷ codes "toLocaleString"
    ∷ codes "toString" ∷ codes "valueOf" ∷ []

abbrev pub is_property : Bytes → Bool
is_property name = is_listed name property_names

-- the warnings so far
abbrev pub warnings_of : Notes → List Bytes
warnings_of notes = bytes_of notes.warnings.items

-- a document was seen that has a text in the field with this number
abbrev pub has_text : Notes → ℕ → Bool
has_text notes number = unwrap_or (slice_get notes.has_text.items number) false

-- the warning of a field in which no document has a text
abbrev pub textless_text : Bytes → Bytes
textless_text field = codes "no document has a text in the field \"" ++ (field ++ codes "\"")

-- that of a field with the name of a property
abbrev pub property_text : Bytes → Bytes
property_text field = codes "the field \"" ++ (field ++ (codes "\": " ++ codes
    "every JavaScript object has a property of this name, so elasticlunr.js fails on it"))

-- those of its texts, and those of its name
abbrev pub textless_warnings : Bool → Bytes → List Bytes
textless_warnings has_text field = if has_text then [] else textless_text field ∷ []

abbrev pub property_warnings : Bytes → List Bytes
property_warnings field = if is_property field then property_text field ∷ [] else []

-- those of fields, where it is known in which of them, by their numbers from 0, a text was seen
abbrev pub fields_warnings : (ℕ → Bool) → List Bytes → List Bytes
fields_warnings has_text [] = []
fields_warnings has_text (field ∷ fields) = (textless_warnings (has_text 0) field
    ++ property_warnings field) ++ fields_warnings (λ number. has_text (suc number)) fields

-- those of the end of the documents that were seen: that there is none, or those of the fields
abbrev pub end_warnings : Notes → List Bytes → List Bytes
end_warnings notes fields = if notes.taken == 0
    then codes "the index is empty: there is no document" ∷ []
    else fields_warnings (has_text notes) fields

-- the number of the last document of the reference that was seen
abbrev pub last_number : Notes → Bytes → Option ℕ
last_number notes reference = get_by_text notes.references reference

-- the warning that the document of this number replaces an earlier one
abbrev pub replacing_text : (number : ℕ) (reference : Bytes) (before : ℕ) → Bytes
replacing_text number reference before = codes "document " ++ (decimal number ++ (codes " (\""
    ++ (reference ++ (codes "\") replaces document " ++ (decimal before
    ++ codes ", which has the same reference")))))

-- that of a reference with a line feed
abbrev pub line_feed_text : (number : ℕ) (reference : Bytes) → Bytes
line_feed_text number reference = codes "document " ++ (decimal number ++ (codes " (\""
    ++ (reference ++ codes
    "\"): its reference has a line feed, so `search` prints it as several lines")))

-- that of a reference with the name of a property
abbrev pub property_document_text : (number : ℕ) (reference : Bytes) → Bytes
property_document_text number reference = codes "document " ++ (decimal number ++ (codes " (\""
    ++ (reference ++ (codes "\"): " ++ codes
    "every JavaScript object has a property of this name, so elasticlunr.js fails on it"))))

abbrev pub replacing_warnings : ℕ → Bytes → (before : Option ℕ) → List Bytes
replacing_warnings number reference None = []
replacing_warnings number reference (Some before) = replacing_text number reference before ∷ []

abbrev pub line_feed_warnings : ℕ → Bytes → List Bytes
line_feed_warnings number reference = if list_any (λ c. c == 10) reference
    then line_feed_text number reference ∷ [] else []

abbrev pub property_document_warnings : ℕ → Bytes → List Bytes
property_document_warnings number reference = if is_property reference
    then property_document_text number reference ∷ [] else []

-- those of a document of this number and this reference, where the reference had the document of
-- the number before, if there is one
abbrev pub reference_warnings : ℕ → Bytes → (before : Option ℕ) → List Bytes
reference_warnings number reference before = replacing_warnings number reference before
    ++ line_feed_warnings number reference ++ property_document_warnings number reference

-- the reference has this number, and each other one the number that it had
abbrev pub NumbersReference : (old new : Notes) → Bytes → ℕ → Type 0
NumbersReference old new reference number = (r : Bytes) → last_number new r
    ≡ (if bytes_eq reference r then Some number else last_number old r)

-- no warning is due for a text under this key: the fields were named, or the key is known
abbrev pub is_known : Notes → Bytes → Bool
is_known notes key = option_map_or (λ known. contains_text known key) notes.known true

-- the warning that a document has a text under a key that is no field
abbrev pub unindexed_text : (number : ℕ) (reference key : Bytes) → Bytes
unindexed_text number reference key = codes "document " ++ (decimal number ++ (codes " (\""
    ++ (reference ++ (codes "\"): the member \"" ++ (key ++ (codes "\" is not indexed: " ++ codes
    "the first document has no string there, so it is not a field; `--fields` names fields"))))))

abbrev pub unindexed_warnings : (is_known : Bool) (number : ℕ) (reference key : Bytes)
    → List Bytes
unindexed_warnings is_known number reference key = if is_known then []
    else unindexed_text number reference key ∷ []

-- the warning that a document has no token; it names the number and the reference
abbrev pub wordless_text : ℕ × Bytes → Bytes
wordless_text told = codes "document " ++ (decimal told.0 ++ (codes " (\"" ++ (told.1
    ++ codes "\") has no word that can be found")))

-- the warnings are the earlier ones, and then one that a document has no token for each of these
-- references, in some order
abbrev pub WarnOfWordless : (references earlier warnings : List Bytes) → Type 0
WarnOfWordless references earlier warnings = (told : List (ℕ × Bytes))
    × (warnings ≡ earlier ++ map wordless_text told)
    × IsPermutation references (map (λ each. each.1) told)

-- after earlier warnings come those of the documents without a token of an index of this plan that
-- represents these commands
abbrev pub EndWithWordless : Plan → Commands → (earlier warnings : List Bytes) → Type 0
EndWithWordless plan commands earlier warnings = (tables : List Table) × (kept : Contents)
    × Holds plan commands tables kept
    × WarnOfWordless (without_token plan.fields kept) earlier warnings
