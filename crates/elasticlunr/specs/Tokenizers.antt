-- What a tokenizer may answer.
use Rattle.std.specs.Prelude.{◌≡◌, List, Ok, Result, String, Vec}
use Rattle.std.specs.Borrow.{Bor}
use Rattle.std.specs.declared.alloc.Global.{Global}
use Rattle.std.specs.declared.alloc.AllocError.{AllocError}
use Rattle.elasticlunr_text.specs.Text.{Text, Bytes, texts_of}
use Rattle.elasticlunr.specs.declared.settings.Tokenizer.{Tokenizer}

-- some call at the value may give these tokens; `post` relates the arguments of a call to its
-- answers
pub record Answers (post : Global → Bor Bytes → Result (Vec (String Global) Global) AllocError
    → Type 0) (value : Bytes) (tokens : List Text) : Type 0 where
  pub alloc : Global
  pub given : Bor Bytes
  pub made : Vec (String Global) Global
  pub of_value : given.now ≡ value
  pub answered : post alloc given (Ok made)
  pub are : texts_of made.items ≡ tokens

-- some call of the tokenizer at the value may give these tokens
abbrev pub MayAnswer : {X : Type 0} {F : X → Type 0} {g : _} → Tokenizer X F g → Bytes → List Text
    → Type 0
MayAnswer {g = g} tokenizer = Answers
    (λ alloc given answer. g.post (tokenizer.function.vtable, tokenizer.function.value)
    (alloc, (given, tt)) answer)
