-- proofs/params/Params/get_glue/Answers.antt
-- Each glue is in its range.
use Rattle.ntx_item.specs.declared.glue_param.GlueParam.TheVariants.{Baselineskip, Lineskip, Topskip, Parskip, Leftskip, Rightskip, Parfillskip}
use Rattle.ntx_item.proofs.params.Params.get_glue.Goals as goal

pub returns-in-Baselineskip-clause-in_range : goal.returns-in-Baselineskip-clause-in_range
returns-in-Baselineskip-clause-in_range c = c.self.invariant.glues Baselineskip

pub returns-in-Lineskip-clause-in_range : goal.returns-in-Lineskip-clause-in_range
returns-in-Lineskip-clause-in_range c = c.self.invariant.glues Lineskip

pub returns-in-Topskip-clause-in_range : goal.returns-in-Topskip-clause-in_range
returns-in-Topskip-clause-in_range c = c.self.invariant.glues Topskip

pub returns-in-Parskip-clause-in_range : goal.returns-in-Parskip-clause-in_range
returns-in-Parskip-clause-in_range c = c.self.invariant.glues Parskip

pub returns-in-Leftskip-clause-in_range : goal.returns-in-Leftskip-clause-in_range
returns-in-Leftskip-clause-in_range c = c.self.invariant.glues Leftskip

pub returns-in-Rightskip-clause-in_range : goal.returns-in-Rightskip-clause-in_range
returns-in-Rightskip-clause-in_range c = c.self.invariant.glues Rightskip

pub returns-in-Parfillskip-clause-in_range : goal.returns-in-Parfillskip-clause-in_range
returns-in-Parfillskip-clause-in_range c = c.self.invariant.glues Parfillskip
