-- By the lemmas.
use Rattle.marking_laws.proofs.SliceEvents.{going-begun, going-black, going-brought, going-cleared, going-new, going-same, going-stood, going-written}
use Rattle.marking_laws.proofs.slices.slices_go_on.Goals as goal

pub returns-clause-begin : goal.returns-clause-begin
returns-clause-begin c = going-begun

pub returns-clause-black : goal.returns-clause-black
returns-clause-black c = going-black

pub returns-clause-write : goal.returns-clause-write
returns-clause-write c = going-written

pub returns-clause-brought : goal.returns-clause-brought
returns-clause-brought c = going-brought

pub returns-clause-new : goal.returns-clause-new
returns-clause-new c = going-new

pub returns-clause-stand : goal.returns-clause-stand
returns-clause-stand c = going-stood

pub returns-clause-clear : goal.returns-clause-clear
returns-clause-clear c = going-cleared

pub returns-clause-other : goal.returns-clause-other
returns-clause-other c = going-same
