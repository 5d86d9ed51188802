mod Stems
