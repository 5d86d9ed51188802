-- the language that is looked for is the first of those that are left
use Rattle.std.proofs.Common.{◌≡◌, drop}
use Rattle.std.specs.List.{find}
use Rattle.elasticlunr_diagnostics.specs.Called.{is_called}
use Rattle.elasticlunr_diagnostics.proofs.language.language_name.Given as goal

abbrev pub invariant-loop-language : goal.invariant-loop-language
invariant-loop-language l = find (is_called l.asked) (drop l.language-index l.language-items)
    ≡ find (is_called l.asked) l.language-items
