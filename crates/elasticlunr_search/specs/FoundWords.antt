-- Which words of a text a query finds.
use Rattle.std.specs.Prelude.{◌≡◌, ℕ, List, Bool, true, false, String, nat_eq, string_bytes}
use Rattle.std.specs.List.{list_any, starts_with}
use Rattle.std.specs.Str.{bytes_eq}
use Rattle.std.specs.declared.alloc.Global.{Global}
use Rattle.elasticlunr_text.specs.Text.{Text, Bytes, texts_of}
use Rattle.elasticlunr_search.specs.Query.{AreTokensOf}

-- a token is the one that is asked for, or with `expand` begins with it
abbrev pub is_answer : (expand : Bool) → (asked token : Bytes) → Bool
is_answer false asked token = bytes_eq token asked
is_answer true asked token = starts_with nat_eq token asked

-- a token is one of those that are asked for, or begins with one
abbrev pub is_asked : (expand : Bool) → (asked : List (String Global)) → (token : Bytes) → Bool
is_asked expand asked token = list_any (λ one. is_answer expand (string_bytes one) token) asked

-- one of these tokens is so
abbrev pub has_asked : (expand : Bool) → (asked own : List (String Global)) → Bool
has_asked expand asked own = list_any (λ token. is_asked expand asked (string_bytes token)) own

-- whether one of the tokens that are read of a word is asked for
pub record IsFoundWord (reads : ℕ → Bytes → List Text → Type 0) (i : ℕ) (expand : Bool)
    (asked : List (String Global)) (word : Bytes) (is_found : Bool) : Type 0 where
  pub own : List (String Global)
  pub of_word : AreTokensOf reads i word (texts_of own)
  pub found : is_found ≡ has_asked expand asked own
