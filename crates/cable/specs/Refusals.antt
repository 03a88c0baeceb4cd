-- The number of each ground for refusing. Grounds are checked in the order of their numbers.
use Rattle.std.specs.Prelude.{ℕ}
use Rattle.cable.specs.declared.refusal.Refusal.{Refusal}
use Rattle.cable.specs.declared.refusal.Refusal.TheVariants.{
  BufferTooSmall,
  LineTooLong,
  UnknownWord,
  WrongFieldCount,
  Malformed,
  OutOfPlace,
  OutOfRange,
  NoSuchWire,
  NoSuchLane,
  Bare,
  AlreadyPlanted,
  WrongCabinetCount,
  NotATree,
  MessageWaiting,
  NoSuchCabinet,
  AlreadyWants,
  NotIn,
  NotANeighbour,
  UnexpectedRequest,
  UnexpectedPrivilege,
  LaneFull,
  WireFull,
  WrongLength,
  UnknownHead,
  LaneByteTooLarge,
  WrongCheck,
}

abbrev pub number_of : Refusal → ℕ
number_of BufferTooSmall = 1
number_of LineTooLong = 2
number_of UnknownWord = 3
number_of WrongFieldCount = 4
number_of Malformed = 5
number_of OutOfPlace = 6
number_of OutOfRange = 7
number_of NoSuchWire = 8
number_of NoSuchLane = 9
number_of Bare = 10
number_of AlreadyPlanted = 11
number_of WrongCabinetCount = 12
number_of NotATree = 13
number_of MessageWaiting = 14
number_of NoSuchCabinet = 15
number_of AlreadyWants = 16
number_of NotIn = 17
number_of NotANeighbour = 18
number_of UnexpectedRequest = 19
number_of UnexpectedPrivilege = 20
number_of LaneFull = 21
number_of WireFull = 22
number_of WrongLength = 23
number_of UnknownHead = 24
number_of LaneByteTooLarge = 25
number_of WrongCheck = 26
