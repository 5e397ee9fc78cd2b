-- The settings that a `Params` holds: its fields.
use Rattle.ntx_item.specs.declared.params.Params.TheInside.{Inside}
use Rattle.ntx_item.specs.Settings.{Settings, AreSettingsInRange}

abbrev pub settings_seen : Inside → Settings
settings_seen a = record {
  pretolerance = a.pretolerance;
  tolerance = a.tolerance;
  linepenalty = a.linepenalty;
  hyphenpenalty = a.hyphenpenalty;
  exhyphenpenalty = a.exhyphenpenalty;
  adjdemerits = a.adjdemerits;
  doublehyphendemerits = a.doublehyphendemerits;
  finalhyphendemerits = a.finalhyphendemerits;
  interlinepenalty = a.interlinepenalty;
  clubpenalty = a.clubpenalty;
  widowpenalty = a.widowpenalty;
  brokenpenalty = a.brokenpenalty;
  lefthyphenmin = a.lefthyphenmin;
  righthyphenmin = a.righthyphenmin;
  hyphenchar = a.hyphenchar;
  hsize = a.hsize;
  emergencystretch = a.emergencystretch;
  parindent = a.parindent;
  lineskiplimit = a.lineskiplimit;
  baselineskip = a.baselineskip;
  lineskip = a.lineskip;
  topskip = a.topskip;
  parskip = a.parskip;
  leftskip = a.leftskip;
  rightskip = a.rightskip;
  parfillskip = a.parfillskip;
}

abbrev pub fields_of : Settings → Inside
fields_of s = record {
  pretolerance = s.pretolerance;
  tolerance = s.tolerance;
  linepenalty = s.linepenalty;
  hyphenpenalty = s.hyphenpenalty;
  exhyphenpenalty = s.exhyphenpenalty;
  adjdemerits = s.adjdemerits;
  doublehyphendemerits = s.doublehyphendemerits;
  finalhyphendemerits = s.finalhyphendemerits;
  interlinepenalty = s.interlinepenalty;
  clubpenalty = s.clubpenalty;
  widowpenalty = s.widowpenalty;
  brokenpenalty = s.brokenpenalty;
  lefthyphenmin = s.lefthyphenmin;
  righthyphenmin = s.righthyphenmin;
  hyphenchar = s.hyphenchar;
  hsize = s.hsize;
  emergencystretch = s.emergencystretch;
  parindent = s.parindent;
  lineskiplimit = s.lineskiplimit;
  baselineskip = s.baselineskip;
  lineskip = s.lineskip;
  topskip = s.topskip;
  parskip = s.parskip;
  leftskip = s.leftskip;
  rightskip = s.rightskip;
  parfillskip = s.parfillskip;
}

-- each parameter is in its range
abbrev pub IsLawful : Inside → Type 0
IsLawful a = AreSettingsInRange (settings_seen a)
