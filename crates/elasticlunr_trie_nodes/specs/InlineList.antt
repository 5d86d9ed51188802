-- What a contract sees of a list that keeps one item in place; for private clauses.
use Rattle.std.specs.Prelude.{List, refl}
use Rattle.std.specs.Coded.{Coded, code_by, coded_list}

-- the items, in order
pub record InlineList (T : Type 0) : Type 0 where
  pub items : List T

-- it is stored as the list of its items
abbrev pub few_code : {T : Type 0} → Coded T → Coded (InlineList T)
few_code {T} code =
    code_by (List T) (coded_list code) (λ f. f.items) (λ xs. record { items = xs }) (λ _. refl)
