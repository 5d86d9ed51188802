-- That a tokenizer has one answer for each text.
use Rattle.std.specs.Prelude.{◌≡◌, Ok, Result, String, Vec}
use Rattle.std.specs.Borrow.{Bor}
use Rattle.std.specs.declared.alloc.Global.{Global}
use Rattle.std.specs.declared.alloc.AllocError.{AllocError}
use Rattle.elasticlunr_text.specs.Text.{Bytes, bytes_of}

-- two answers to one text are equal, unless memory runs out; `post` relates the arguments of a call
-- to its answers
abbrev pub HasOneAnswer : (post : Global → Bor Bytes
    → Result (Vec (String Global) Global) AllocError → Type 0) → Type 0
HasOneAnswer post = (a b : Global) (s t : Bor Bytes) (v w : Vec (String Global) Global) → s.now
    ≡ t.now → post a s (Ok v) → post b t (Ok w) → bytes_of v.items ≡ bytes_of w.items
