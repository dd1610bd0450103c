use Rattle.std.proofs.Common.{inr, refl}
use Rattle.wb_tool.proofs.recovering.refuse_recovery.Goals as goal

pub returns-in-Backing-clause-told : goal.returns-in-Backing-clause-told
returns-in-Backing-clause-told g c = rw c.in-Backing.is c.refuse_backing.ensures

pub returns-in-Stray-clause-told : goal.returns-in-Stray-clause-told
returns-in-Stray-clause-told g c = rw c.in-Stray.is c.refuse_stray.ensures

pub returns-in-LogFault-clause-told : goal.returns-in-LogFault-clause-told
returns-in-LogFault-clause-told g c = rw c.in-LogFault.is (inr (refl, c.tell.ensures))

pub returns-in-BackingFault-clause-told : goal.returns-in-BackingFault-clause-told
returns-in-BackingFault-clause-told g c = rw c.in-BackingFault.is (inr (refl, c.tell-in-BackingFault.ensures))
