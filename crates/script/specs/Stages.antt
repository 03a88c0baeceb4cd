-- How far a script has come: no post was named; a post was named, and then the cabinets; they are planted.
use Rattle.std.specs.Prelude.{ℕ, List, [], ◌∷◌, map, replicate}
use Rattle.cable.specs.Numbers.{wires}
use Rattle.cable.specs.Rows.{contents}
use Rattle.cable.specs.declared.number.CabinetNo.{CabinetNo}
use Rattle.post.specs.declared.straight.Straight.{Straight}
use Rattle.retry.specs.declared.retry.Retry.{Retry}
use Rattle.wiring.specs.Held.{letters_of}
use Rattle.wiring.specs.declared.letter.Letter.{Letter}
use Rattle.wiring.specs.declared.letter.Letter.TheVariants.{Keep}
use Rattle.wiring.specs.declared.clean.Clean.{Clean}
use Rattle.wiring.specs.declared.patterned.Patterned.{Patterned}
use Rattle.promise.specs.Banks.{Bank as Model}
use Rattle.bank.specs.Banks.{bank_of}
use Rattle.script.specs.declared.command.PostKind.{PostKind}
use Rattle.script.specs.declared.command.PostKind.TheVariants as kind
use Rattle.script.specs.declared.draft.Draft.{Draft as DraftHeld}
use Rattle.script.specs.declared.draft.Choice.{Choice as ChoiceHeld}
use Rattle.script.specs.declared.draft.Choice.TheVariants as choice
use Rattle.script.specs.declared.draft.Setting.{Setting as SettingHeld}
use Rattle.script.specs.declared.stage.Stage.{Stage as StageHeld}
use Rattle.script.specs.declared.stage.Stage.TheVariants as stage

-- bad wires: how many frames in a row each may lose, and the letters of each
pub record Setting : Type 0 where
  pub misses : ℕ
  pub letters : List (List Letter)

pub data Choice : Type 0 where
  straight : Choice
  clean : Choice
  retry : Setting → Choice

-- what was said so far
pub record Draft : Type 0 where
  pub post : Choice
  pub parents : List CabinetNo

pub data Stage : Type 0 where
  unnamed : Stage
  drafted : Draft → Stage
  over_straight : Model Straight → Stage
  over_clean : Model (Retry Clean) → Stage
  over_retry : Model (Retry Patterned) → Stage

-- what the grounds for refusing a line look at: not what the bank holds
pub data Phase : Type 0 where
  naming : Phase
  drafting : Draft → Phase
  running : Phase

abbrev pub phase_of : Stage → Phase
phase_of unnamed = naming
phase_of (drafted d) = drafting d
phase_of (over_straight b) = running
phase_of (over_clean b) = running
phase_of (over_retry b) = running

-- as it is when nothing was said of the wires: none loses, and each has the letter k
abbrev pub fresh_setting : Setting
fresh_setting = record { misses = 0; letters = replicate wires (Keep ∷ []) }

abbrev pub chosen : PostKind → Choice
chosen kind.Straight = straight
chosen kind.Clean = clean
chosen kind.Retry = retry fresh_setting

abbrev pub drafted_with : PostKind → Draft
drafted_with k = record { post = chosen k; parents = [] }

abbrev pub setting_of : SettingHeld → Setting
setting_of s = record { misses = s.misses.most; letters = map letters_of s.patterns }

abbrev pub choice_of : ChoiceHeld → Choice
choice_of choice.Straight = straight
choice_of choice.Clean = clean
choice_of (choice.Retry s) = retry (setting_of s)

abbrev pub draft_of : DraftHeld → Draft
draft_of d = record { post = choice_of d.post; parents = contents d.parents }

abbrev pub stage_of : StageHeld → Stage
stage_of stage.Unnamed = unnamed
stage_of (stage.Drafted d) = drafted (draft_of d)
stage_of (stage.Straight b) = over_straight (bank_of b)
stage_of (stage.Clean b) = over_clean (bank_of b)
stage_of (stage.Retry b) = over_retry (bank_of b)
