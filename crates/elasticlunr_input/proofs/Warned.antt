-- On warnings that are added.
use Rattle.std.proofs.Common.{◌≡◌, ◌∷◌, ◌++◌, ℕ, suc, Bool, true, false, List, [], length, map, String, Global}
use Rattle.std.proofs.Common.{string_bytes, if◌then◌else◌, refl, sym, ap, ◌∙◌, append_assoc}
use Rattle.std.proofs.Common.{append-nil, Bor, ◌+◌, ◌<◌, take, get_or, subst, arith}
use Rattle.std.proofs.lemmas.List.{length-map, get_or-map, length-take-le, take_more}
use Rattle.std.proofs.lemmas.List.{map-append}
use Rattle.elasticlunr_text.specs.Text.{Bytes, bytes_of}
use Rattle.elasticlunr_job_format.specs.ObjectsTold.{texts_told}
use Rattle.elasticlunr_input.specs.Warnings.{fields_warnings, property_warnings}
use Rattle.elasticlunr_input.specs.Warnings.{textless_warnings, wordless_text}

-- a string more
pub one_more : (warnings : List (String Global)) (said : String Global) (text : Bytes) → string_bytes said ≡ text
    → bytes_of (warnings ++ said ∷ []) ≡ bytes_of warnings ++ text ∷ []
one_more warnings said text is = map-append string_bytes warnings (said ∷ [])
    ∙ ap (λ t. bytes_of warnings ++ t ∷ []) is

-- where a test says whether there is one
pub none_if : (earlier : List Bytes) (test : Bool) (text : Bytes) → test ≡ true
    → earlier ≡ earlier ++ (if test then [] else text ∷ [])
none_if earlier test text is = sym (ap (λ b. earlier ++ (if b then [] else text ∷ [])) is ∙ append-nil earlier)

pub one_if_not : (earlier : List Bytes) (test : Bool) (text : Bytes) → test ≡ false
    → earlier ++ text ∷ [] ≡ earlier ++ (if test then [] else text ∷ [])
one_if_not earlier test text is = sym (ap (λ b. earlier ++ (if b then [] else text ∷ [])) is)

pub none_unless : (earlier : List Bytes) (test : Bool) (text : Bytes) → test ≡ false
    → earlier ≡ earlier ++ (if test then text ∷ [] else [])
none_unless earlier test text is = sym (ap (λ b. earlier ++ (if b then text ∷ [] else [])) is ∙ append-nil earlier)

pub one_if : (earlier : List Bytes) (test : Bool) (text : Bytes) → test ≡ true
    → earlier ++ text ∷ [] ≡ earlier ++ (if test then text ∷ [] else [])
one_if earlier test text is = sym (ap (λ b. earlier ++ (if b then text ∷ [] else [])) is)

-- the warnings of one field more
pub field_more : (has_text : ℕ → Bool) (fields : List Bytes) (field : Bytes)
    → fields_warnings has_text (fields ++ field ∷ []) ≡ fields_warnings has_text fields
    ++ (textless_warnings (has_text (length fields)) field ++ property_warnings field)
field_more has_text [] field = append-nil _
field_more has_text (first ∷ fields) field =
    let its = textless_warnings (has_text 0) first ++ property_warnings first in
    ap (λ ws. its ++ ws) (field_more (λ number. has_text (suc number)) fields field)
    ∙ sym (append_assoc its (fields_warnings (λ number. has_text (suc number)) fields) _)

-- a document that is told of
abbrev pub told : ℕ × Bor Bytes → ℕ × Bytes
told document = (document.0, document.1.now)

abbrev pub texts_of : List (ℕ × Bor Bytes) → List Bytes
texts_of documents = map wordless_text (map told documents)

-- one document more, which is the next
pub wordless_more : (warnings : List (String Global)) (said : String Global) (document : ℕ × Bor Bytes)
    (rest : List (ℕ × Bor Bytes)) → string_bytes said ≡ wordless_text (told document)
    → bytes_of (warnings ++ said ∷ []) ++ texts_of rest ≡ bytes_of warnings ++ texts_of (document ∷ rest)
wordless_more warnings said document rest is =
    ap (λ ws. ws ++ texts_of rest) (one_more warnings said (wordless_text (told document)) is)
    ∙ append_assoc (bytes_of warnings) (wordless_text (told document) ∷ []) (texts_of rest)

-- the references of documents that are told of
pub references_told : (documents : List (ℕ × Bor Bytes))
    → map (λ (each : ℕ × Bytes). each.1) (map told documents) ≡ map (λ document. document.1.now) documents
references_told [] = refl
references_told (document ∷ documents) = ap (λ rs. document.1.now ∷ rs) (references_told documents)

-- one more of what a map makes of a list
pub map_more : {X Y : Type 0} (f : X → Y) (xs : List X) (i : ℕ) (d : X) → i < length xs
    → take (i + 1) (map f xs) ≡ take i (map f xs) ++ f (get_or xs i d) ∷ []
map_more f xs i d less =
    take_more (map f xs) i (f d) (subst (λ n. i < n) (sym (length-map xs f)) less)
    ∙ ap (λ y. take i (map f xs) ++ y ∷ []) (get_or-map f xs i d (f d) less)

-- and the warnings of one field more
pub fields_step : (has_text : ℕ → Bool) (fields : List (Bor Bytes)) (i : ℕ) (d : Bor Bytes) → i < length fields
    → fields_warnings has_text (take (i + 1) (texts_told fields)) ≡ fields_warnings has_text (take i (texts_told fields))
    ++ (textless_warnings (has_text i) (get_or fields i d).now ++ property_warnings (get_or fields i d).now)
fields_step has_text fields i d less =
    let names = texts_told fields in
    let name = (get_or fields i d).now in
    let long = length-map fields (λ (s : Bor Bytes). s.now) in
    ap (fields_warnings has_text) (map_more (λ (s : Bor Bytes). s.now) fields i d less)
    ∙ (field_more has_text (take i names) name
    ∙ ap (λ n. fields_warnings has_text (take i names) ++ (textless_warnings (has_text n) name ++ property_warnings name))
    (length-take-le i names (omega (arith, less, long))))
