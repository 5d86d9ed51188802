use Rattle.std.proofs.Common.{◌≡◌, map}
use Rattle.std.specs.Str.{chars}
use Rattle.elasticlunr_text.specs.Text.{texts_of}
use Rattle.elasticlunr_tests.proofs.own_language.CommasLanguage.tokenize.Given as goal

abbrev pub invariant-loop-piece : goal.invariant-loop-piece
invariant-loop-piece l = texts_of l.tokens.items ≡ map (λ piece. chars piece.now) l.yielded
