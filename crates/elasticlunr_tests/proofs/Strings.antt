-- Strings, by their bytes and by their characters.
use Rattle.std.proofs.Common.{◌≡◌, ℕ, List, [], ◌∷◌, ◌++◌, map, Option, None, Some, option_map, Result, Ok, Err, IfOk}
use Rattle.std.proofs.Common.{String, Global, string_bytes, refl, sym, ap, ◌∙◌}
use Rattle.std.specs.Borrow.{Bor}
use Rattle.std.specs.Str.{chars, encode_utf8_all, IsUtf8}
use Rattle.std.specs.declared.alloc.AllocError.{AllocError}
use Rattle.std.proofs.lemmas.Str.{IsUtf8-string_bytes, encodes-chars}
use Rattle.std.proofs.lemmas.List.{map-append}
use Rattle.elasticlunr_text.specs.Text.{Bytes, text_of, texts_of}

-- the bytes are those of the characters
bytes_of_text : (s : String Global) → encode_utf8_all (text_of s) ≡ string_bytes s
bytes_of_text s = encodes-chars (string_bytes s) (IsUtf8-string_bytes s)

text_left : (left : Option (String Global)) → option_map text_of left ≡ option_map chars (option_map string_bytes left)
text_left None = refl
text_left (Some s) = refl

-- what a function of the bytes leaves, as characters
pub left_by_bytes : (f : Bytes → Option Bytes) (token : String Global) (r : Result (Option (String Global)) AllocError)
    → IfOk r (λ left. option_map string_bytes left ≡ f (string_bytes token))
    → IfOk r (λ left. option_map text_of left ≡ option_map chars (f (encode_utf8_all (text_of token))))
left_by_bytes f token (Ok left) is = text_left left ∙ ap (option_map chars) (is ∙ ap f (sym (bytes_of_text token)))
left_by_bytes f token (Err e) is = tt

-- the characters of borrowed bytes
abbrev pub chars_of : Bor Bytes → List ℕ
chars_of piece = chars piece.now

-- one more string that was made of borrowed bytes
pub pieces_push : (tokens new : List (String Global)) (s : String Global) (pieces : List (Bor Bytes))
    (piece : Bor Bytes) → new ≡ tokens ++ s ∷ []
    → texts_of tokens ≡ map chars_of pieces → string_bytes s ≡ piece.now → texts_of new
    ≡ map chars_of (pieces ++ piece ∷ [])
pieces_push tokens new s pieces piece e so_far same =
    ap texts_of e ∙ map-append text_of tokens (s ∷ []) ∙ (λ i. so_far i ++ chars (same i) ∷ [])
    ∙ sym (map-append chars_of pieces (piece ∷ []))

-- the characters of all pieces of a text
pub pieces_of : (bytes : Bytes) (cut : Bytes → List Bytes) (pieces : List (Bor Bytes)) → IsUtf8 bytes
    → map (λ piece. piece.now) pieces ≡ cut bytes
    → map chars_of pieces ≡ map chars (cut (encode_utf8_all (chars bytes)))
pieces_of bytes cut pieces utf8 e = twice pieces ∙ ap (map chars) (e ∙ ap cut (sym (encodes-chars bytes utf8))) where
  twice : (ps : List (Bor Bytes)) → map chars_of ps ≡ map chars (map (λ piece. piece.now) ps)
  twice [] = refl
  twice (p ∷ ps) = ap (λ more. chars p.now ∷ more) (twice ps)
