-- For clauses of private functions: where the first character that passes a test begins, in the
-- bytes of a text.
use Rattle.std.specs.Prelude.{◌≡◌, ℕ, Bool, true, false, List, ◌++◌, take, drop, encode_utf8}
use Rattle.std.specs.List.{list_any}
use Rattle.std.specs.Str.{chars, IsCharBoundary}

-- at this place begins a character that passes the test, and none before it does
pub record IsFirstAt (test : ℕ → Bool) (bytes : List ℕ) (place : ℕ) : Type 0 where
  pub boundary : IsCharBoundary bytes place
  pub none_before : list_any test (chars (take place bytes)) ≡ false
  pub character : ℕ
  pub rest : List ℕ
  pub split : drop place bytes ≡ encode_utf8 character ++ rest
  pub passes : test character ≡ true
