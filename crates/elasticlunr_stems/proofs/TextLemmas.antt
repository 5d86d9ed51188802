-- A character pushed onto a string.
use Rattle.std.proofs.Common.{◌≡◌, ℕ, [], ◌∷◌, ◌++◌, List, String, string_bytes, Result, Ok, Err, refl, sym, ◌∙◌, ap}
use Rattle.std.specs.Result.{is_ok, OnOk}
use Rattle.std.specs.Prelude.{if◌then◌else◌}
use Rattle.std.specs.declared.alloc.Global.{Global}
use Rattle.std.specs.declared.alloc.AllocError.{AllocError}
use Rattle.std.specs.Char.{IsScalar, encode_utf8}
use Rattle.std.specs.Str.{chars}
use Rattle.std.proofs.lemmas.List.{append-nil}
use Rattle.std.proofs.lemmas.Str.{IsUtf8-string_bytes, chars-append, chars-encodes}
use Rattle.elasticlunr_error.specs.Text.{text_of}

-- the characters of one character's bytes
chars-encode : (c : ℕ) → IsScalar c → chars (encode_utf8 c) ≡ c ∷ []
chars-encode c is = ap chars (sym (append-nil (encode_utf8 c))) ∙ chars-encodes (c ∷ []) (rw is refl)

pub text_of-push : (s t : String Global) (c : ℕ) (r : Result (Unit {0}) AllocError) → IsScalar c
    → string_bytes t ≡ (if is_ok r then string_bytes s ++ encode_utf8 c else string_bytes s)
    → OnOk r (text_of t ≡ text_of s ++ c ∷ [])
text_of-push s t c (Ok u) is e = ap chars e ∙ (chars-append (string_bytes s) (encode_utf8 c) (IsUtf8-string_bytes s)
    ∙ ap (λ (x : List ℕ). chars (string_bytes s) ++ x) (chars-encode c is))
text_of-push s t c (Err u) is e = tt
