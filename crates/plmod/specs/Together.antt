-- Texts that are prepared together.
use Rattle.std.specs.Prelude.{List, map}
use Rattle.unit_format.specs.Views.{unit_facts}
use Rattle.unit_model.specs.Directives.{Text}
use Rattle.link_model.specs.Faults.{fault, first_link}
use Rattle.link_model.specs.Texts.{prep_fault, link_fault, linked, WholeIs}
use Rattle.plmod.specs.declared.whole_texts.Together.{Together}
use Rattle.plmod.specs.declared.whole_texts.Together.TheVariants as T
use Rattle.plmod.specs.declared.whole_texts.WholeFault.{WholeFault}
use Rattle.plmod.specs.declared.whole_texts.WholeFault.TheVariants as W

-- the fault of the first text that has one, or the units of the texts
abbrev pub ArePrepared : List Text → Together → Type 0
ArePrepared texts (T.Faulty number text byte) = WholeIs texts (prep_fault number text byte)
ArePrepared texts (T.All units) = WholeIs texts (linked (map unit_facts units.items) (first_link (map unit_facts units.items)))

-- texts are no program for this cause
abbrev pub IsWholeFault : List Text → WholeFault → Type 0
IsWholeFault texts (W.Prep number text byte) = WholeIs texts (prep_fault number text byte)
IsWholeFault texts (W.Link number unit byte) = WholeIs texts (link_fault (fault unit byte number))
IsWholeFault texts W.NoMemory = Unit {0}
