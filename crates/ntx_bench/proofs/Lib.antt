mod Paragraphs
