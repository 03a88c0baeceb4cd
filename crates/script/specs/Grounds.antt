-- Why the script itself refuses a line that reads well. The grounds are checked in the order of their numbers; each has a name that
-- says what holds where it does not apply.
use Rattle.std.specs.Prelude.{Bool, true, false, cond, ◌&&◌, length, Some, None, Ok, Err, Option, Result, ◌==◌, nat_le, nat_lt}
use Rattle.cable.specs.Numbers.{wires}
use Rattle.cable.specs.declared.refusal.Refusal.{Refusal}
use Rattle.cable.specs.declared.refusal.Refusal.TheVariants.{OutOfPlace, OutOfRange, NoSuchWire, Bare, AlreadyPlanted, WrongCabinetCount, NotATree}
use Rattle.tree.specs.Trees.{lower, ordered}
use Rattle.script.specs.Orders.{Order, post, misses, pattern, cabinet, plant, want, leave, sweep, bound}
use Rattle.script.specs.Stages as stages
use Rattle.script.specs.Stages.{Phase, Choice, naming, drafting, running}

abbrev pub may_be_bad : Choice → Bool
may_be_bad (stages.retry s) = true
may_be_bad c = false

-- the post comes first, and once; then the wires, if they may be bad, and the cabinets, until these are planted
abbrev pub in_place : Phase → Order → Bool
in_place naming (post k) = true
in_place naming o = false
in_place s (post k) = false
in_place (drafting d) (misses m) = may_be_bad d.post
in_place (drafting d) (pattern w ls) = may_be_bad d.post
in_place (drafting d) o = true
in_place running (misses m) = false
in_place running (pattern w ls) = false
in_place running (cabinet k p) = false
in_place running o = true

abbrev pub in_range : Order → Bool
in_range (misses m) = nat_le m 15
in_range (sweep c) = nat_le 1 c && nat_le c 1000
in_range (bound s) = nat_le s 65535
in_range o = true

abbrev pub on_a_wire : Order → Bool
on_a_wire (pattern w ls) = nat_lt w wires
on_a_wire o = true

-- the calls of a bank wait until it is planted
abbrev pub has_a_bank : Phase → Order → Bool
has_a_bank (drafting d) (want n) = false
has_a_bank (drafting d) (leave n) = false
has_a_bank (drafting d) (sweep c) = false
has_a_bank (drafting d) (bound s) = false
has_a_bank s o = true

abbrev pub has_none_yet : Phase → Order → Bool
has_none_yet (drafting d) plant = true
has_none_yet running plant = false
has_none_yet s o = true

abbrev pub has_few_cabinets : Phase → Order → Bool
has_few_cabinets (drafting d) (cabinet k p) = nat_le k 15
has_few_cabinets (drafting d) plant = nat_lt 0 (length d.parents) && nat_le (length d.parents) 16
has_few_cabinets s o = true

-- cabinets come one after the other, each after its parent
abbrev pub makes_a_tree : Phase → Order → Bool
makes_a_tree (drafting d) (cabinet k p) = k == length d.parents && lower k p
makes_a_tree (drafting d) plant = ordered 0 d.parents
makes_a_tree s o = true

abbrev pub unless : Bool → Refusal → Option Refusal → Option Refusal
unless holds why further = cond holds further (Some why)

abbrev pub refusal : Phase → Order → Option Refusal
refusal s o =
    unless (in_place s o) OutOfPlace
    (unless (in_range o) OutOfRange
    (unless (on_a_wire o) NoSuchWire
    (unless (has_a_bank s o) Bare
    (unless (has_none_yet s o) AlreadyPlanted
    (unless (has_few_cabinets s o) WrongCabinetCount
    (unless (makes_a_tree s o) NotATree None))))))

-- the answer of a step that only may be refused
abbrev pub unless_refused : Option Refusal → Result (Unit {0}) Refusal
unless_refused None = Ok tt
unless_refused (Some why) = Err why
