-- English reads one token of the text "go".
use Rattle.std.proofs.Common.{◌≡◌, ◌<◌, length, lit<, Option, None, Some, codes, refl, ap}
use Rattle.std.specs.Char.{encode_utf8}
use Rattle.std.specs.Str.{chars, encode_utf8_all}
use Rattle.elasticlunr.specs.AnyLanguage.TheVariants.{English as english}
use Rattle.elasticlunr.specs.Kept.{ReadsOneToken}
use Rattle.elasticlunr.specs.Known.{language_leaves}
use Rattle.elasticlunr.specs.Lower.{lower}
use Rattle.elasticlunr.specs.StopWords.{english_stop_words}
use Rattle.elasticlunr.specs.Text.{Text}
use Rattle.elasticlunr.specs.Words.{is_separator}
use Rattle.elasticlunr_laws.proofs.OneToken.{one_token, short_stem}

is_short : length (encode_utf8_all (codes "go")) < 3
unfolding encode_utf8
is_short = lit< tt

its_stem : (left : Option Text) → language_leaves english (codes "go") left → left ≡ Some (codes "go")
unfolding english_stop_words chars
its_stem None is = absurd is
its_stem (Some stem) is = ap Some (short_stem (codes "go") stem is_short is)

pub only_go : ReadsOneToken english (codes "go") (codes "go")
unfolding is_separator lower chars
only_go = one_token english (codes "go") (codes "go") (codes "go") refl its_stem
