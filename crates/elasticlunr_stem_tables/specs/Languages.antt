-- The tables of the languages. A proof sees a table only where it asks for it.
use Rattle.std.specs.Prelude.{List, ℕ, codes}
use Rattle.elasticlunr_stem_tables.specs.declared.language.Language.{Language}
use Rattle.elasticlunr_stem_tables.specs.declared.language.Language.TheVariants.{Danish, Dutch}
use Rattle.elasticlunr_stem_tables.specs.declared.language.Language.TheVariants.{Finnish, French}
use Rattle.elasticlunr_stem_tables.specs.declared.language.Language.TheVariants.{German}
use Rattle.elasticlunr_stem_tables.specs.declared.language.Language.TheVariants.{Hungarian}
use Rattle.elasticlunr_stem_tables.specs.declared.language.Language.TheVariants.{Italian}
use Rattle.elasticlunr_stem_tables.specs.declared.language.Language.TheVariants.{Norwegian}
use Rattle.elasticlunr_stem_tables.specs.declared.language.Language.TheVariants.{Portuguese}
use Rattle.elasticlunr_stem_tables.specs.declared.language.Language.TheVariants.{Romanian}
use Rattle.elasticlunr_stem_tables.specs.declared.language.Language.TheVariants.{Russian}
use Rattle.elasticlunr_stem_tables.specs.declared.language.Language.TheVariants.{Spanish}
use Rattle.elasticlunr_stem_tables.specs.declared.language.Language.TheVariants.{Swedish, Turkish}
use Rattle.elasticlunr_stem_tables.specs.declared.language.Version.{Version}
use Rattle.elasticlunr_stem_tables.specs.declared.language.Version.TheVariants.{Current, Older}
use Rattle.elasticlunr_stem_tables.specs.declared.tables.da.TheConstants as da
use Rattle.elasticlunr_stem_tables.specs.declared.tables.du.TheConstants as du
use Rattle.elasticlunr_stem_tables.specs.declared.tables.fi.TheConstants as fi
use Rattle.elasticlunr_stem_tables.specs.declared.tables.fr.TheConstants as fr
use Rattle.elasticlunr_stem_tables.specs.declared.tables.de.TheConstants as de
use Rattle.elasticlunr_stem_tables.specs.declared.tables.hu.TheConstants as hu
use Rattle.elasticlunr_stem_tables.specs.declared.tables.it.TheConstants as it
use Rattle.elasticlunr_stem_tables.specs.declared.tables.no.TheConstants as no
use Rattle.elasticlunr_stem_tables.specs.declared.tables.pt.TheConstants as pt
use Rattle.elasticlunr_stem_tables.specs.declared.tables.ro.TheConstants as ro
use Rattle.elasticlunr_stem_tables.specs.declared.tables.ru.TheConstants as ru
use Rattle.elasticlunr_stem_tables.specs.declared.tables.es.TheConstants as es
use Rattle.elasticlunr_stem_tables.specs.declared.tables.sv.TheConstants as sv
use Rattle.elasticlunr_stem_tables.specs.declared.tables.tr.TheConstants as tr

-- the codes of the languages
abbrev pub language_code : Language → List ℕ
language_code Danish = codes "da"
language_code Dutch = codes "du"
language_code Finnish = codes "fi"
language_code French = codes "fr"
language_code German = codes "de"
language_code Hungarian = codes "hu"
language_code Italian = codes "it"
language_code Norwegian = codes "no"
language_code Portuguese = codes "pt"
language_code Romanian = codes "ro"
language_code Russian = codes "ru"
language_code Spanish = codes "es"
language_code Swedish = codes "sv"
language_code Turkish = codes "tr"

unfoldable pub danish_table : List ℕ
danish_table = da.TABLE.now

unfoldable pub dutch_table : List ℕ
dutch_table = du.TABLE.now

unfoldable pub finnish_table : List ℕ
finnish_table = fi.TABLE.now

unfoldable pub french_table : List ℕ
french_table = fr.TABLE.now

unfoldable pub german_table : List ℕ
german_table = de.TABLE.now

unfoldable pub hungarian_table : List ℕ
hungarian_table = hu.TABLE.now

unfoldable pub italian_table : List ℕ
italian_table = it.TABLE.now

unfoldable pub norwegian_table : List ℕ
norwegian_table = no.TABLE.now

unfoldable pub portuguese_table : List ℕ
portuguese_table = pt.TABLE.now

unfoldable pub romanian_table : List ℕ
romanian_table = ro.TABLE.now

unfoldable pub russian_table : List ℕ
russian_table = ru.TABLE.now

unfoldable pub spanish_table : List ℕ
spanish_table = es.TABLE.now

unfoldable pub swedish_table : List ℕ
swedish_table = sv.TABLE.now

unfoldable pub turkish_table : List ℕ
turkish_table = tr.TABLE.now

unfoldable pub older_danish_table : List ℕ
older_danish_table = da.OLDER.now

unfoldable pub older_finnish_table : List ℕ
older_finnish_table = fi.OLDER.now

unfoldable pub older_french_table : List ℕ
older_french_table = fr.OLDER.now

unfoldable pub older_portuguese_table : List ℕ
older_portuguese_table = pt.OLDER.now

unfoldable pub older_russian_table : List ℕ
older_russian_table = ru.OLDER.now

-- the table of a language, after Snowball 2.2
abbrev pub current_table : Language → List ℕ
current_table Danish = danish_table
current_table Dutch = dutch_table
current_table Finnish = finnish_table
current_table French = french_table
current_table German = german_table
current_table Hungarian = hungarian_table
current_table Italian = italian_table
current_table Norwegian = norwegian_table
current_table Portuguese = portuguese_table
current_table Romanian = romanian_table
current_table Russian = russian_table
current_table Spanish = spanish_table
current_table Swedish = swedish_table
current_table Turkish = turkish_table

-- the same after the Snowball before 2.0, from which five differ
abbrev pub older_table : Language → List ℕ
older_table Danish = older_danish_table
older_table Dutch = dutch_table
older_table Finnish = older_finnish_table
older_table French = older_french_table
older_table German = german_table
older_table Hungarian = hungarian_table
older_table Italian = italian_table
older_table Norwegian = norwegian_table
older_table Portuguese = older_portuguese_table
older_table Romanian = romanian_table
older_table Russian = older_russian_table
older_table Spanish = spanish_table
older_table Swedish = swedish_table
older_table Turkish = turkish_table

abbrev pub table_text : Version → Language → List ℕ
table_text Current language = current_table language
table_text Older language = older_table language
